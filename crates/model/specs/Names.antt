-- Names on the wire, RFC 1035 section 3.1: labels, each a length byte of 1 to 63 and as many bytes, and then a zero byte. Assumes nothing.
use Rattle.std.specs.Prelude.{ℕ, zero, suc, ◌+◌, Bool, false, not, cond, ◌&&◌, List, [], ◌∷◌, length, eqb, leb, ltb}
use Rattle.model.specs.Lists.{same}

-- a letter A to Z
abbrev pub upper : ℕ → Bool
upper b = leb 65 b && leb b 90

-- RFC 1035 section 2.3.3: names compare and are stored with A to Z folded to a to z, other bytes as they are
unfoldable pub fold : ℕ → ℕ
fold b = cond (upper b) (b + 32) b

-- how many bytes the name takes that starts the list; 0 where there is none, since the list ends first or a label byte is 64 or more.
-- A label has at most 63 bytes (RFC 1035 section 2.3.4). k bytes of a label are still to come, and n bytes were passed.
unfoldable pub name_size : ℕ → ℕ → List ℕ → ℕ
name_size k n [] = 0
name_size zero n (b ∷ s) = cond (eqb b 0) (n + 1) (cond (ltb b 64) (name_size b (n + 1) s) 0)
name_size (suc k) n (b ∷ s) = name_size k (n + 1) s

-- a stored name: a wire name in lower case that fills the list. k bytes of a label are still to come.
unfoldable pub lower_name : ℕ → List ℕ → Bool
lower_name k [] = false
lower_name zero (b ∷ s) = cond (eqb b 0) (eqb (length s) 0) (ltb b 64 && lower_name b s)
lower_name (suc k) (b ∷ s) = not (upper b) && lower_name k s

-- Document 02's ticket 3: what a comparison of two names returns. A name's bytes are all of them, length bytes and the final zero too.
pub record Compared : Type 0 where
  -- they are the same
  pub same : Bool
  -- how many byte pairs were looked at: byte k of one and byte k of the other, from the front, the differing pair included
  pub pairs : ℕ

-- the pairs looked at up to the first that differs, or to the end of the shorter list
unfoldable pub looked : List ℕ → List ℕ → ℕ
looked [] ys = 0
looked (x ∷ xs) [] = 0
looked (x ∷ xs) (y ∷ ys) = cond (eqb x y) (suc (looked xs ys)) 1

-- a stored name and another, stored or sent, this one folded. Lengths first: where they differ no pair is looked at.
unfoldable pub compared : List ℕ → List ℕ → Compared
compared xs ys = record { same = same xs ys; pairs = cond (eqb (length xs) (length ys)) (looked xs ys) 0 }
