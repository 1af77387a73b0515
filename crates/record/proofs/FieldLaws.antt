-- Bytes judged as one number: zeros, a kind and zeros, and two fields side by side. Assumes nothing.
use Prim.Native.Nat.{ℕ, ◌+◌, ◌*◌, ◌^◌, ◌≤◌}
use native.Mathlib.Omega.{arith}
use mathlib.Core.Path.{◌≡◌, refl, sym, ◌∙◌}
use mathlib.Core.Bool.{◌&&◌, and_assoc}
use mathlib.Core.List.{List}
use lib.ListN.{length, get_or}
use lib.Dec.{eqb, lit<}
use Rattle.model.specs.Lists.{same}
use Rattle.model.specs.Numbers.{big_endian, Bytes, part}
use Rattle.model.specs.Table.{read_entry}
use Rattle.model.proofs.NumberLaws.{big-add, big_lt, big-one}
use Rattle.layout.specs.Shape.{zeros_at, unused_shape}
use Rattle.layout.specs.Held.{holding_at}
use Rattle.layout.proofs.AddressLaws.{halves_are}
use Rattle.octets.proofs.Laws.{zero_bytes, zero-both, zero_number}
use Rattle.octets.proofs.Cover.{cover}
use Rattle.record.specs.Asked.{same_asked}

-- the first eight bytes of a line, of kind k and seven zeros
head-is : (s : List ℕ) (a k : ℕ) → Bytes s → a + 8 ≤ length s → eqb (get_or s a 0) k && zeros_at s (a + 1) 7 ≡ eqb (big_endian s a 8) (k * 256 ^ 7 + 0)
head-is s a k b h =
    let l : a + 1 + 7 ≤ length s = omega arith in
    rw (big-add s a 1 7, big-one s a, zero_number s (a + 1) 7 l)
    (sym (halves_are (256 ^ 7) (get_or s a 0) (big_endian s (a + 1) 7) k 0 (big_lt s (a + 1) 7 b) (lit< tt)))

-- an unused line as three numbers that lie over each other
pub unused-is : (s : List ℕ) (a : ℕ) → Bytes s → a + 19 ≤ length s
    → unused_shape s a ≡ eqb (big_endian s a 8) (2 * 256 ^ 7) && (eqb (big_endian s (a + 8) 8) 0 && eqb (big_endian s (a + 11) 8) 0)
unfolding unused_shape
unused-is s a b h =
    let e : a + 1 + 7 ≡ a + 8 = omega arith in
    let f : a + 8 + 3 ≡ a + 11 = omega arith in
    let m : a + 8 + 8 ≤ length s = omega arith in
    let n : a + 11 + 8 ≤ length s = omega arith in
    let p = zero-both s (a + 1) 18 7 11 refl (omega arith) in
    let q = cover (zero_bytes s) _ (zero-both s) (a + 8) 11 8 8 (omega arith) (omega arith) (omega arith) (omega arith) in
    rw (← p, e, ← q, f, zero_number s (a + 8) 8 m, zero_number s (a + 11) 8 n)
    (sym (and_assoc (eqb (get_or s a 0) 2) (zeros_at s (a + 1) 7) (eqb (big_endian s (a + 8) 8) 0 && eqb (big_endian s (a + 11) 8) 0))
    ∙ rw (head-is s a 2 b (omega arith)))

-- two numbers of four bytes are the same exactly if both halves are
fields-are : (s : List ℕ) (a c : ℕ) → Bytes s
    → eqb (big_endian s a 4) (big_endian s c 4) ≡ eqb (big_endian s a 2) (big_endian s c 2) && eqb (big_endian s (a + 2) 2) (big_endian s (c + 2) 2)
fields-are s a c b =
    let p : big_endian s a 4 ≡ big_endian s a 2 * 256 ^ 2 + big_endian s (a + 2) 2 = big-add s a 2 2 in
    let q : big_endian s c 4 ≡ big_endian s c 2 * 256 ^ 2 + big_endian s (c + 2) 2 = big-add s c 2 2 in
    rw (p, q)
    (halves_are (256 ^ 2) (big_endian s a 2) (big_endian s (a + 2) 2) (big_endian s c 2) (big_endian s (c + 2) 2) (big_lt s (a + 2) 2 b) (big_lt s (c + 2) 2 b))

-- what two entries ask, as the code looks at it: the port, type and class as one, the name
pub asked_is : (s : List ℕ) (a c : ℕ) → Bytes s → same_asked (holding_at 0 s a) (holding_at 0 s c)
    ≡ eqb (big_endian s (a + 17) 2) (big_endian s (c + 17) 2) && eqb (big_endian s (a + 35) 4) (big_endian s (c + 35) 4)
    && same (part (a + 40) (get_or s (a + 39) 0) s) (part (c + 40) (get_or s (c + 39) 0) s)
unfolding holding_at read_entry
asked_is s a c b =
    let e : a + 35 + 2 ≡ a + 37 = omega arith in
    let f : c + 35 + 2 ≡ c + 37 = omega arith in
    let p = eqb (big_endian s (a + 17) 2) (big_endian s (c + 17) 2) in
    let t = eqb (big_endian s (a + 35) 2) (big_endian s (c + 35) 2) in
    let k = eqb (big_endian s (a + 37) 2) (big_endian s (c + 37) 2) in
    rw (fields-are s (a + 35) (c + 35) b, e, f, and_assoc p t k)
