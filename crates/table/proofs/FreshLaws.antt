-- Laws for making a table. Assumes nothing.
use Prim.Native.Nat.{ℕ, zero, suc, ◌+◌, ◌-◌, ◌*◌, ◌≤◌}
use native.Mathlib.Nat.{zero-add}
use native.Mathlib.Numerals.{add-one}
use native.Mathlib.Omega.{arith}
use mathlib.Core.Path.{◌≡◌, refl, sym, ap, ◌∙◌}
use mathlib.Core.Bool.{true}
use mathlib.Core.List.{List, [], ◌∷◌, ◌++◌, append_assoc}
use lib.ListN.{length, replicate, length-append, replicate-append-replicate}
use Rattle.model.specs.Lists.{up_to, flat}
use Rattle.model.specs.Numbers.{Bytes, bytes_of, part, splice, encode}
use Rattle.model.specs.Clock.{Weeks, ten_bit, thirteen_bit}
use Rattle.model.specs.Table.{free, slot_bytes, line_bytes, unused_line, roster_bytes, Layout, kind_with, clock_kind, place_bytes, table_bytes, read_line, lines_at, base, line_at, size_of}
use Rattle.model.specs.Calls.{good_roster, roster_count, roster_lines}
use Rattle.model.proofs.NumberLaws.{splice-on, splice_all, length-encode, part-all}
use Rattle.model.proofs.ListLaws.{length-up_to, flat-snoc, flat-next, length-rows, same_true}
use Rattle.model.proofs.SlotLaws.{length-slot, length-unused}
use Rattle.model.proofs.TableLaws.{rows_none, rows_next, clock-starts}
use Rattle.model.proofs.CallLaws.{GivenRoster, given-roster}
use Rattle.layout.proofs.LayoutLaws.{lines_same}
use Rattle.table.specs.Fresh.{unused_lines, free_slots, fresh}

-- UNUSED LINES AND FREE SLOTS, one after the other

pub lines_none : (at : ℕ) (s : List ℕ) → s ≡ splice at 0 (unused_lines 0) s
unfolding unused_lines
lines_none at s = sym (rows_none (λ (i : ℕ). unused_line) 19 (λ i. i) at s)

pub slots-none : (at : ℕ) (s : List ℕ) → s ≡ splice at 0 (free_slots 0) s
unfolding free_slots
slots-none at s = sym (rows_none (λ (i : ℕ). slot_bytes free) 320 (λ i. i) at s)

pub lines_more : (s t x : List ℕ) (m k : ℕ) → 19 * (m + k + 1) ≤ length s → t ≡ splice (19 * m) (19 * k) (unused_lines k) s
    → x ≡ splice (19 * (m + k)) 19 unused_line t → x ≡ splice (19 * m) (19 * (k + 1)) (unused_lines (k + 1)) s
unfolding unused_lines
lines_more s t x m k h e f =
    let a : 19 * (m + k) ≡ 19 * m + 19 * k = omega arith in
    rw (f, e, a) (rows_next (λ (i : ℕ). unused_line) 19 (λ i. i) (19 * m) s k (λ j. length-unused) (omega arith))

pub slots-more : (s t x : List ℕ) (k : ℕ) → 320 * (k + 1) ≤ length s → t ≡ splice 0 (320 * k) (free_slots k) s
    → x ≡ splice (320 * k) 320 (slot_bytes free) t → x ≡ splice 0 (320 * (k + 1)) (free_slots (k + 1)) s
unfolding free_slots
slots-more s t x k h e f =
    rw (f, e)
    (ap (λ (z : ℕ). splice z 320 (slot_bytes free) (splice 0 (320 * k) (flat (λ (i : ℕ). slot_bytes free) (up_to k (λ i. i))) s)) (sym (zero-add (320 * k)))
    ∙ rows_next (λ (i : ℕ). slot_bytes free) 320 (λ i. i) 0 s k (λ j. length-slot free tt) (omega arith))

length-lines : (k : ℕ) → length (unused_lines k) ≡ 19 * k
unfolding unused_lines
length-lines k = length-rows (λ (i : ℕ). unused_line) 19 k (λ i. i) (λ i l. length-unused)

slots-are : (k : ℕ) → flat slot_bytes (replicate k free) ≡ free_slots k
unfolding free_slots flat up_to
slots-are zero = refl
slots-are (suc k) =
    ap (λ (j : ℕ). flat slot_bytes (replicate j free)) (sym (add-one k))
    ∙ ap (flat slot_bytes) (sym (replicate-append-replicate k 1 free))
    ∙ flat-snoc slot_bytes (replicate k free) free
    ∙ ap (λ (s : List ℕ). s ++ slot_bytes free) (slots-are k)
    ∙ sym (flat-next (λ (i : ℕ). slot_bytes free) k (λ i. i))
    ∙ ap free_slots (add-one k)

-- THE ROSTER AS GIVEN

module _ (r : List ℕ) (bytes : Bytes r) (n : ℕ) (good : good_roster n r ≡ true) where
  given : GivenRoster n r
  given = given-roster n r good

  roster-bytes : flat line_bytes (roster_lines r) ≡ r
  roster-bytes =
      let m = roster_count r in
      let s = lines_same r bytes m (omega (arith, given.whole)) given.kinds in
      same_true (flat line_bytes (roster_lines r)) (part 0 (19 * m) r) s ∙ ap (λ (k : ℕ). part 0 k r) (sym given.whole) ∙ part-all r

  roster-is : roster_bytes (roster_lines r) ≡ r ++ unused_lines (16 - roster_count r)
  unfolding roster_bytes unused_lines
  roster-is = rw (roster-bytes, length-up_to (roster_count r) (λ i. read_line r (19 * i)))

  -- five parts written one behind the other are the table's bytes
  module _ (s : List ℕ) (l : Layout) (place : ℕ) (size : length s ≡ size_of l n) where
    abbrev fs : List (ℕ × ℕ)
    fs = (place_bytes l, place) ∷ (4, 0) ∷ []

    abbrev w : ℕ
    w = place_bytes l + 4

    parts : ((((clock_kind l ∷ []) ++ encode fs) ++ r) ++ unused_lines (16 - roster_count r)) ++ free_slots n ≡ table_bytes (fresh l place r n)
    unfolding table_bytes
    parts = rw (clock-starts l (record { place = place; running = 0 }), roster-is, slots-are n) (simp append_assoc)

    fresh-bytes : splice (base l) (320 * n) (free_slots n)
        (splice (line_at l (roster_count r)) (19 * (16 - roster_count r)) (unused_lines (16 - roster_count r))
        (splice (lines_at l) (length r) r (splice 1 w (encode fs) (splice 0 1 (clock_kind l ∷ []) s)))) ≡ table_bytes (fresh l place r n)
    fresh-bytes =
        let m = roster_count r in
        let u = unused_lines (16 - m) in
        let h = (clock_kind l ∷ []) ++ encode fs in
        let lw : length (encode fs) ≡ w = length-encode fs in
        let one = splice-on 1 w (clock_kind l ∷ []) (encode fs) s refl (omega (arith, size)) in
        let ch : length h ≡ lines_at l = ap suc lw ∙ (omega arith) in
        let g : 1 + w ≡ lines_at l = omega arith in
        let two = splice-on (lines_at l) (length r) h r s ch (omega (arith, size, given.whole, given.few)) in
        let cr : length (h ++ r) ≡ lines_at l + length r = length-append h r ∙ ap (λ (k : ℕ). k + length r) ch in
        let a : line_at l m ≡ lines_at l + length r = omega (arith, given.whole) in
        let three = splice-on (lines_at l + length r) (19 * (16 - m)) (h ++ r) u s cr (omega (arith, size, given.whole, given.few)) in
        let e : lines_at l + length r + 19 * (16 - m) ≡ base l = omega (arith, given.whole, given.few) in
        let cu : length ((h ++ r) ++ u) ≡ base l = length-append (h ++ r) u ∙ (rw (cr, length-lines (16 - m))) ∙ e in
        let four = splice-on (base l) (320 * n) ((h ++ r) ++ u) (free_slots n) s cu (omega (arith, size)) in
        rw (one, g, two, a, three, e, four) (splice_all (size_of l n) _ s size ∙ parts)

    kind-one : (v : Weeks) → bytes_of 1 (kind_with v) ≡ kind_with v ∷ []
    unfolding bytes_of
    kind-one ten_bit = refl
    kind-one thirteen_bit = refl

    -- step by step, as the code writes them
    pub fresh-written : {k at : ℕ} {s₁ s₂ s₃ s₄ s₅ : List ℕ} → k ≡ clock_kind l → at ≡ lines_at l → s₁ ≡ splice 0 1 (bytes_of 1 k) s → s₂ ≡ splice 1 w (encode fs) s₁
        → s₃ ≡ splice at (length r) (part 0 (length r) r) s₂
        → s₄ ≡ splice (lines_at l + 19 * roster_count r) (19 * (16 - roster_count r)) (unused_lines (16 - roster_count r)) s₃
        → s₅ ≡ splice (base l + 0) (320 * n) (free_slots n) s₄ → s₅ ≡ table_bytes (fresh l place r n)
    fresh-written q p e₁ e₂ e₃ e₄ e₅ =
        let z : base l + 0 ≡ base l = omega arith in
        e₅ ∙ (rw (z, e₄, e₃, p, part-all r, e₂, e₁, q, kind-one l.weeks) fresh-bytes)
