-- Numbers, parts and fields in lists of bytes, told apart from the model's readers and writers. Assumes nothing.
use Rattle.std.specs.Prelude.{ℕ, zero, suc, ◌+◌, ◌-◌, ◌*◌, ◌/◌, ◌%◌, ◌^◌, ◌≤◌, ◌<◌, ◌≡◌, List, [], ◌∷◌, length, get_or}
use Rattle.model.specs.Numbers.{Bytes, big_endian, bytes_of, part, splice, encode}
use Rattle.claims.specs.Exactly.{Exactly}

-- the value of k bytes from a place: the first counts 256 ^ (k − 1) times, the last once
unfoldable pub value_at : List ℕ → ℕ → ℕ → ℕ
value_at s at zero = 0
value_at s at (suc k) = get_or s at 0 * 256 ^ k + value_at s (at + 1) k

-- a list s with the k elements from a place replaced by vs
pub record Replaced (at k : ℕ) (vs s u : List ℕ) : Type 0 where
  pub size : length u ≡ length s
  pub before : (i : ℕ) → i < at → get_or u i 0 ≡ get_or s i 0
  pub here : (i : ℕ) → i < k → get_or u (at + i) 0 ≡ get_or vs i 0
  pub behind : (i : ℕ) → at + k ≤ i → get_or u i 0 ≡ get_or s i 0

-- fields, each its width and its value: how many bytes the first i take
abbrev pub width_of : List (ℕ × ℕ) → ℕ → ℕ
width_of [] i = 0
width_of (f ∷ fs) zero = 0
width_of (f ∷ fs) (suc i) = f.0 + width_of fs i

pub record NumbersInBytes : Type 0 where
  -- a byte is under 256
  pub bytes : (s : List ℕ) → Exactly (Bytes s) ((i : ℕ) → i < length s → get_or s i 0 < 256)
  -- big endian, read
  pub read : (s : List ℕ) (at k : ℕ) → big_endian s at k ≡ value_at s at k
  -- and written: k bytes, byte i the digit of its place
  pub width : (k x : ℕ) → length (bytes_of k x) ≡ k
  pub digit : (k x i : ℕ) → i < k → get_or (bytes_of k x) i 0 ≡ x / 256 ^ (k - 1 - i) % 256
  -- a part of a list
  pub part_size : (at k : ℕ) (s : List ℕ) → at + k ≤ length s → length (part at k s) ≡ k
  pub part_at : (at k : ℕ) (s : List ℕ) (i : ℕ) → i < k → get_or (part at k s) i 0 ≡ get_or s (at + i) 0
  -- replaced
  pub spliced : (at k : ℕ) (vs s : List ℕ) → length vs ≡ k → at + k ≤ length s → Replaced at k vs s (splice at k vs s)
  -- fields one after the other: how long they are, and the bytes of each
  pub fields_size : (fs : List (ℕ × ℕ)) → length (encode fs) ≡ width_of fs (length fs)
  pub field_bytes : (fs : List (ℕ × ℕ)) (i j : ℕ) → i < length fs → j < (get_or fs i (0, 0)).0
      → get_or (encode fs) (width_of fs i + j) 0 ≡ get_or (bytes_of (get_or fs i (0, 0)).0 (get_or fs i (0, 0)).1) j 0
