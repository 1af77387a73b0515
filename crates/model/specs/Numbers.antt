-- Numbers in a list of bytes, big endian (RFC 1035 section 2.3.2, RFC 8764 section 3.2), and a record of fields one after the other. Assumes nothing.
use Rattle.std.specs.Prelude.{ℕ, zero, suc, ◌+◌, ◌*◌, ◌/◌, ◌%◌, ◌<◌, List, [], ◌∷◌, ◌++◌, take, drop, get_or}

-- each element is a byte
abbrev pub Bytes : List ℕ → Type 0
Bytes s = (i : ℕ) → get_or s i 0 < 256

-- the value of the k bytes of s from index at, the most significant first
unfoldable pub big_endian : List ℕ → ℕ → ℕ → ℕ
big_endian s at zero = 0
big_endian s at (suc k) = big_endian s at k * 256 + get_or s (at + k) 0

-- the last k bytes of x, the most significant first
unfoldable pub bytes_of : ℕ → ℕ → List ℕ
bytes_of zero x = []
bytes_of (suc k) x = bytes_of k (x / 256) ++ (x % 256 ∷ [])

-- the k elements of s from index at
unfoldable pub part : ℕ → ℕ → List ℕ → List ℕ
part at k s = take k (drop at s)

-- s with the k elements from index at replaced by vs
unfoldable pub splice : ℕ → ℕ → List ℕ → List ℕ → List ℕ
splice at k vs s = take at s ++ (vs ++ drop (at + k) s)

-- A layout is a list of fields, each its width in bytes and its value.

-- the bytes of the fields, one after the other
unfoldable pub encode : List (ℕ × ℕ) → List ℕ
encode [] = []
encode (f ∷ fs) = bytes_of f.0 f.1 ++ encode fs
