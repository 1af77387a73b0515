-- A turn of a comparison: of s from a and of t from b the first i bytes agree. Assumes nothing.
use Prim.Native.Nat.{ℕ, ◌+◌, ◌≤◌, ◌<◌}
use native.Mathlib.Nat.{add-zero}
use native.Mathlib.Omega.{arith}
use mathlib.Core.Path.{◌≡◌, sym, ap, ◌∙◌}
use mathlib.Core.List.{List, ◌++◌}
use mathlib.Core.Bool.{true, false, ◌&&◌}
use mathlib.Core.Logic.{◌≢◌, ⊎_elim}
use lib.ListN.{length, get_or}
use lib.Dec.{eqb}
use Rattle.model.specs.Numbers.{big_endian, bytes_of, Bytes, part}
use borrow.Author.Tests.{eqb-true, eqb-false}
use Rattle.model.specs.Lists.{same}
use Rattle.model.specs.Names.{Compared, compared}
use Rattle.model.proofs.CompareLaws.{pairs-most}
use Rattle.model.proofs.NumberLaws.{bytes-big, big-part, part-next, length_part}
use Rattle.model.proofs.ListLaws.{test, same_refl, same-no, same-append, part-add}

module _ (s t : List ℕ) (a b : ℕ) where
  -- the next pair agrees
  pub pair-agrees : (i : ℕ) → part a i s ≡ part b i t → a + i < length s → b + i < length t → get_or s (a + i) 0 ≡ get_or t (b + i) 0
      → part a (i + 1) s ≡ part b (i + 1) t
  pair-agrees i e h l z = part-next a i s h ∙ rw (e, z, ← part-next b i t l)

  -- the next w pairs agree
  pub part-agrees : (i w : ℕ) → part a i s ≡ part b i t → part (a + i) w s ≡ part (b + i) w t → part a (i + w) s ≡ part b (i + w) t
  part-agrees i w e z =
      part-add a i w s
      ∙ ap (λ (x : List ℕ). x ++ part (a + i) w s) e
      ∙ ap (λ (x : List ℕ). part b i t ++ x) z
      ∙ sym (part-add b i w t)

-- bytes that are the same number are the same
pub word-agrees : (s t : List ℕ) (a b w : ℕ) → Bytes s → Bytes t → a + w ≤ length s → b + w ≤ length t → big_endian s a w ≡ big_endian t b w
    → part a w s ≡ part b w t
word-agrees s t a b w p q h l z = sym (bytes-big s a w p h) ∙ ap (bytes_of w) z ∙ bytes-big t b w q l

-- bytes that are two numbers are not the same
pub word-differs : (s t : List ℕ) (a b w : ℕ) → big_endian s a w ≢ big_endian t b w → part a w s ≢ part b w t
word-differs s t a b w d e = d (number s a ∙ ap (λ (x : List ℕ). big_endian x 0 w) e ∙ sym (number t b))
  where
    number : (u : List ℕ) (at : ℕ) → big_endian u at w ≡ big_endian (part at w u) 0 w
    number u at = sym (rw add-zero at (big-part u at w 0 w (omega arith)))

-- the bytes of two words are the same exactly if both numbers are
module _ (s t : List ℕ) (a b w : ℕ) (p : Bytes s) (q : Bytes t) where
  word_same : a + w ≤ length s → b + w ≤ length t → same (part a w s) (part b w t) ≡ eqb (big_endian s a w) (big_endian t b w)
  word_same h l =
      ⊎_elim
      (λ (e : eqb (big_endian s a w) (big_endian t b w) ≡ true).
      rw (e, word-agrees s t a b w p q h l (eqb-true _ _ e)) (same_refl (part b w t)))
      (λ (e : eqb (big_endian s a w) (big_endian t b w) ≡ false).
      rw e (same-no (part a w s) (part b w t) (word-differs s t a b w (eqb-false _ _ e))))
      (test (eqb (big_endian s a w) (big_endian t b w)))

pub two-words-same : (s t : List ℕ) (a b w : ℕ) → Bytes s → Bytes t → a + (w + w) ≤ length s → b + (w + w) ≤ length t
    → same (part a (w + w) s) (part b (w + w) t)
    ≡ eqb (big_endian s a w) (big_endian t b w) && eqb (big_endian s (a + w) w) (big_endian t (b + w) w)
two-words-same s t a b w p q h l =
    rw (
      part-add a w w s,
      part-add b w w t,
      same-append (part a w s) (part (a + w) w s) (part b w t) (part (b + w) w t) (length_part a w s (omega arith) ∙ sym (length_part b w t (omega arith))),
      word_same s t a b w p q (omega arith) (omega arith),
      word_same s t (a + w) (b + w) w p q (omega arith) (omega arith),
    )

-- a comparison looks at no more pairs than there are
pub pairs-within : (s t : List ℕ) (a b k : ℕ) {r : Compared} → r ≡ compared (part a k s) (part b k t) → a + k ≤ length s → r.pairs ≤ k
pairs-within s t a b k e h = omega (arith, ap (λ (z : Compared). z.pairs) e, length_part a k s h, pairs-most (part a k s) (part b k t))
