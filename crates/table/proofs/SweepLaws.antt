-- Laws for the sweep that frees run-out entries. Assumes nothing.
use Prim.Native.Nat.{ℕ, zero, suc, ◌+◌, ◌-◌, ◌*◌, ◌^◌, ◌<◌}
use native.Mathlib.Nat.{zero-add}
use native.Mathlib.Numerals.{add-one}
use native.Mathlib.Omega.{arith}
use mathlib.Core.Path.{◌≡◌, refl, sym, ap, ◌∙◌, subst}
use mathlib.Core.Bool.{Bool, true, false, cond}
use mathlib.Core.List.{List, [], ◌∷◌, ◌++◌, map}
use lib.ListN.{length, get_or, take, drop, set}
use lib.Seq.{take-suc, set-get_or, take-length}
use Rattle.model.specs.Lists.{bit, count, flat}
use Rattle.model.specs.Numbers.{Bytes, big_endian, splice, encode}
use Rattle.model.specs.Clock.{Clock, advance}
use Rattle.model.specs.Table.{Slot, free, Table, slot_bytes, place_bytes, table_bytes, read_table, read_slot, running_at, base, size_of, layout_of, cycle_in}
use Rattle.model.specs.Sound.{FitsSlot}
use Rattle.model.specs.Serve.{with_clock, with_slots, slot_run_out, free_if_run_out, free_run_out, moved_on, ended}
use Rattle.model.specs.Calls.{freed_by}
use Rattle.model.proofs.ListLaws.{count-append, get_or-any, length-up_to, get_or-up_to}
use Rattle.model.proofs.SlotLaws.{length-slot, fits-short, slot-back}
use Rattle.model.proofs.TableLaws.{flat-cut, flat-set, length_front, clock_fields}
use Rattle.model.proofs.Meaning.{fits_read, fits-slot, lines-read}
use Rattle.model.proofs.StepLaws.{freed-fits, fits-free}
use Rattle.layout.specs.Shape.{slots_to}
use Rattle.layout.proofs.PartLaws.{slots_read, tail-is, tail-back}
use Rattle.layout.proofs.ReadLaws.{running-read}
use Rattle.table.specs.Written.{WellFormed, FormedSlots, Written}
use Rattle.table.specs.Sweep.{first_changed, freed_to}
use Rattle.table.proofs.WriteLaws.{written, clock-written, formed-written, with-slots}

-- THE FIRST i SLOTS CHANGED

module _ (g : Slot → Slot) where
  pub length-first : (i : ℕ) (s : List Slot) → length (first_changed i g s) ≡ length s
  unfolding first_changed
  length-first zero s = refl
  length-first (suc i) [] = refl
  length-first (suc i) (x ∷ s) = ap suc (length-first i s)

  first-here : (i : ℕ) (s : List Slot) (d : Slot) → get_or (first_changed i g s) i d ≡ get_or s i d
  unfolding first_changed
  first-here zero s d = refl
  first-here (suc i) [] d = refl
  first-here (suc i) (x ∷ s) d = first-here i s d

  first-suc : (i : ℕ) (s : List Slot) (d : Slot) → i < length s → first_changed (suc i) g s ≡ set (first_changed i g s) i (g (get_or s i d))
  unfolding first_changed
  first-suc i [] d h = absurd (omega arith)
  first-suc zero (x ∷ s) d h = refl
  first-suc (suc i) (x ∷ s) d h = ap {B = List Slot} (λ r. g x ∷ r) (first-suc i s d (omega arith))

  first_next : (i : ℕ) (s : List Slot) (d : Slot) → i < length s → first_changed (i + 1) g s ≡ set (first_changed i g s) i (g (get_or s i d))
  first_next i s d h = rw add-one (first-suc i s d h)

  first-all : (s : List Slot) → first_changed (length s) g s ≡ map g s
  unfolding first_changed
  first-all [] = refl
  first-all (x ∷ s) = ap {B = List Slot} (λ r. g x ∷ r) (first-all s)

  first_fits : ((x : Slot) → FitsSlot x → FitsSlot (g x)) → (i : ℕ) (s : List Slot) → ((j : ℕ) → j < length s → FitsSlot (get_or s j free))
      → (j : ℕ) → j < length s → FitsSlot (get_or (first_changed i g s) j free)
  unfolding first_changed
  first_fits ok zero s f j l = f j l
  first_fits ok (suc i) [] f j l = absurd (omega arith)
  first_fits ok (suc i) (x ∷ s) f zero l = ok x (f 0 l)
  first_fits ok (suc i) (x ∷ s) f (suc j) l = first_fits ok i s (λ k m. f (suc k) (omega arith)) j (omega arith)

-- ROWS OF SLOTS

module _ (s : List Slot) (fits : (j : ℕ) → j < length s → FitsSlot (get_or s j free)) where
  rows : (i : ℕ) (d : Slot) → i < length s → length (slot_bytes (get_or s i d)) ≡ 320
  rows i d l = rw (get_or-any s i d free l) (length-slot (get_or s i free) (fits-short (get_or s i free) (fits i l)))

  row_read : (i : ℕ) → i < length s → read_slot (flat slot_bytes s) (320 * i) ≡ get_or s i free
  row_read i l =
      ap (λ (z : List ℕ). read_slot z (320 * i)) (flat-cut slot_bytes s i free l)
      ∙ slot-back (flat slot_bytes (take i s)) (320 * i) (get_or s i free) (flat slot_bytes (drop (suc i) s)) (length_front slot_bytes 320 s rows i (omega arith)) (fits i l)

  row-set : (i : ℕ) (x : Slot) → i < length s → splice (320 * i) 320 (slot_bytes x) (flat slot_bytes s) ≡ flat slot_bytes (set s i x)
  row-set i x l = ap (λ (k : ℕ). splice k 320 (slot_bytes x) (flat slot_bytes s)) (sym (zero-add (320 * i))) ∙ flat-set slot_bytes 320 s rows [] 0 i x refl l

-- A TURN OF THE SWEEP

module _ (r : ℕ) (s : List Slot) (fits : (j : ℕ) → j < length s → FitsSlot (get_or s j free)) where
  g : Slot → Slot
  g = free_if_run_out r

  module _ (i : ℕ) (l : i < length s) (b : List ℕ) (inv : b ≡ flat slot_bytes (freed_to r s i)) where
    here : i < length (freed_to r s i)
    here = rw (length-first (free_if_run_out r) i s) l

    still-fits : (j : ℕ) → j < length (freed_to r s i) → FitsSlot (get_or (freed_to r s i) j free)
    still-fits j m = first_fits (free_if_run_out r) (freed-fits r) i s fits j (rw (length-first (free_if_run_out r) i s) at m)

    pub freed-read : read_slot b (320 * i) ≡ get_or s i free
    freed-read = ap (λ (z : List ℕ). read_slot z (320 * i)) inv ∙ row_read (freed_to r s i) still-fits i here ∙ first-here (free_if_run_out r) i s free

    freed-next : (x : Slot) → g (get_or s i free) ≡ x → splice (320 * i) 320 (slot_bytes x) b ≡ flat slot_bytes (freed_to r s (i + 1))
    unfolding g
    freed-next x e =
        ap (splice (320 * i) 320 (slot_bytes x)) inv ∙ row-set (freed_to r s i) still-fits i x here
        ∙ ap (flat slot_bytes) (ap (set (freed_to r s i) i) (sym e) ∙ sym (first_next (free_if_run_out r) i s free l))

    pub freed-hit : slot_run_out r (get_or s i free) ≡ true → splice (320 * i) 320 (slot_bytes ended) b ≡ flat slot_bytes (freed_to r s (i + 1))
    unfolding g
    freed-hit h = freed-next free (rw h)

    pub freed-miss : slot_run_out r (get_or s i free) ≡ false → b ≡ flat slot_bytes (freed_to r s (i + 1))
    unfolding g
    freed-miss h =
        let e : g (get_or s i free) ≡ get_or (freed_to r s i) i free = (rw h) ∙ sym (first-here (free_if_run_out r) i s free) in
        inv
        ∙ ap (flat slot_bytes)
        (sym (first_next (free_if_run_out r) i s free l ∙ ap (set (freed_to r s i) i) e ∙ set-get_or (freed_to r s i) i free))

-- counting along
module _ {A : Type 0} (p : A → Bool) (s : List A) (d : A) where
  take_next : (i : ℕ) → i < length s → count (take (i + 1) s) p ≡ count (take i s) p + bit (p (get_or s i d))
  take_next i h = rw (add-one i, take-suc s i d h, count-append) (omega arith)

  took-hit : (i k : ℕ) → i < length s → p (get_or s i d) ≡ true → k ≡ count (take i s) p → k + 1 ≡ count (take (i + 1) s) p
  took-hit i k h t e = rw (take_next i h, t, e)

  took-miss : (i k : ℕ) → i < length s → p (get_or s i d) ≡ false → k ≡ count (take i s) p → k ≡ count (take (i + 1) s) p
  took-miss i k h t e = rw (take_next i h, t, e) (omega arith)

-- THE WHOLE OF IT, from the slots' bytes

module _ (b : List ℕ) (bytes : Bytes b) (n r : ℕ) where
  abbrev slots : List Slot
  slots = slots_to b n

  long : length slots ≡ n
  long = length-up_to n (λ j. read_slot b (320 * j))

  fit : (j : ℕ) → j < length slots → FitsSlot (get_or slots j free)
  fit j l = let m : j < n = rw long at l in rw (get_or-up_to n (λ k. read_slot b (320 * k)) j free m) (fits-slot b bytes (320 * j))

  module _ (i : ℕ) (l : i < n) (x : List ℕ) (inv : x ≡ flat slot_bytes (freed_to r slots i)) where
    inside : i < length slots
    inside = rw long l

    test : (v : Bool) → slot_run_out r (read_slot x (320 * i)) ≡ v → slot_run_out r (get_or slots i free) ≡ v
    test v h = sym (ap (slot_run_out r) (freed-read r slots fit i inside x inv)) ∙ h

    pub turn-hit : slot_run_out r (read_slot x (320 * i)) ≡ true → splice (320 * i) 320 (slot_bytes ended) x ≡ flat slot_bytes (freed_to r slots (i + 1))
    turn-hit h = freed-hit r slots fit i inside x inv (test true h)

    pub turn-miss : slot_run_out r (read_slot x (320 * i)) ≡ false → x ≡ flat slot_bytes (freed_to r slots (i + 1))
    turn-miss h = freed-miss r slots fit i inside x inv (test false h)

    pub count-hit : (k : ℕ) → slot_run_out r (read_slot x (320 * i)) ≡ true → k ≡ count (take i slots) (slot_run_out r)
        → k + 1 ≡ count (take (i + 1) slots) (slot_run_out r)
    count-hit k h e = took-hit (slot_run_out r) slots free i k inside (test true h) e

    pub count-miss : (k : ℕ) → slot_run_out r (read_slot x (320 * i)) ≡ false → k ≡ count (take i slots) (slot_run_out r)
        → k ≡ count (take (i + 1) slots) (slot_run_out r)
    count-miss k h e = took-miss (slot_run_out r) slots free i k inside (test false h) e

  pub all-freed : (x : List ℕ) (k i : ℕ) → i ≡ n → x ≡ flat slot_bytes (freed_to r slots i) → k ≡ count (take i slots) (slot_run_out r)
      → (x ≡ flat slot_bytes (map (free_if_run_out r) slots)) × (k ≡ count slots (slot_run_out r))
  all-freed x k i e inv c =
      let z : i ≡ length slots = e ∙ sym long in (
        inv ∙ ap (λ (j : ℕ). flat slot_bytes (freed_to r slots j)) z ∙ ap (flat slot_bytes) (first-all (free_if_run_out r) slots),
        c ∙ ap (λ (j : ℕ). count (take j slots) (slot_run_out r)) z ∙ ap (λ (s : List Slot). count s (slot_run_out r)) (take-length slots),
      )

pub sweep-start : (r : ℕ) (b : List ℕ) (n : ℕ) → FormedSlots b n → b ≡ flat slot_bytes (freed_to r (slots_to b n) 0)
unfolding first_changed
sweep-start r b n h = sym h

-- a slots' part that was lent to the sweep
pub lent-swept : (x : List ℕ) (n r : ℕ) {a : ℕ} {ws : List ℕ} {k h : ℕ} → a ≡ h
    → (ws ≡ flat slot_bytes (map (free_if_run_out r) (slots_to (take (length x - a) (drop a x)) n))) × (k ≡ count (slots_to (take (length x - a) (drop a x)) n) (slot_run_out r))
    → (take a x ++ (ws ++ drop (length x - a) (drop a x)) ≡ take h x ++ flat slot_bytes (map (free_if_run_out r) (slots_to (drop h x) n)))
    × (k ≡ count (slots_to (drop h x) n) (slot_run_out r))
lent-swept x n r e f =
    let s = tail-is x e in (
      tail-back x e (f.0 ∙ ap (λ (y : List ℕ). flat slot_bytes (map (free_if_run_out r) (slots_to y n))) s),
      f.1 ∙ ap (λ (y : List ℕ). count (slots_to y n) (slot_run_out r)) s,
    )

-- the same of a table whose slots' part was swept
pub table-swept : (b : List ℕ) → Bytes b → WellFormed b → (n r : ℕ) → length b ≡ size_of (layout_of (length b)) n → r ≡ big_endian b (running_at (layout_of (length b))) 4 → (y : List ℕ) (k : ℕ)
    → (y ≡ take (base (layout_of (length b))) b ++ flat slot_bytes (map (free_if_run_out r) (slots_to (drop (base (layout_of (length b))) b) n))) × (k ≡ count (slots_to (drop (base (layout_of (length b))) b) n) (slot_run_out r))
    → Written y (free_run_out (read_table b)) × (k ≡ count (read_table b).slots (slot_run_out r))
table-swept b bytes formed n r size e y k h =
    let s = slots_read b n size in
    let d : (read_table b).clock.running ≡ r = running-read b ∙ sym e in
    let t : free_run_out (read_table b) ≡ with_slots (read_table b) (map (free_if_run_out r) (slots_to (drop (base (layout_of (length b))) b) n)) =
    ap (λ (z : ℕ). with_slots (read_table b) (map (free_if_run_out z) (read_table b).slots)) d ∙ ap (λ (z : List Slot). with_slots (read_table b) (map (free_if_run_out r) z)) s in (
      written y (free_run_out (read_table b)) (lines-read b) (fits-free (read_table b) (fits_read b bytes))
          (h.0 ∙ with-slots b bytes formed (map (free_if_run_out r) (slots_to (drop (base (layout_of (length b))) b) n)) ∙ ap table_bytes (sym t)),
      h.1 ∙ ap (λ (z : List Slot). count z (slot_run_out r)) (sym s),
    )

-- THE CLOCK MOVED FIRST

none_out : (r : ℕ) (s : List Slot) → count s (slot_run_out r) ≡ 0 → map (free_if_run_out r) s ≡ s
none_out r [] e = refl
none_out r (x ∷ s) e = go (slot_run_out r x) e (none_out r s)
  where
    go : (v : Bool) → bit v + count s (slot_run_out r) ≡ 0 → (count s (slot_run_out r) ≡ 0 → map (free_if_run_out r) s ≡ s)
        → cond v ended x ∷ map (free_if_run_out r) s ≡ x ∷ s
    go true e f = absurd (omega arith)
    go false e f = ap (λ (l : List Slot). x ∷ l) (f (omega arith))

module _ (b : List ℕ) (bytes : Bytes b) (formed : WellFormed b) (c : Clock) (p : c.place < 256 ^ place_bytes (layout_of (length b))) (q : c.running < 256 ^ 4) (x : List ℕ)
    (e : x ≡ splice 1 (place_bytes (layout_of (length b)) + 4) (encode (clock_fields (layout_of (length b)) c)) b) where
  set-clock : Written x (with_clock (read_table b) c)
  set-clock = clock-written b bytes formed c p q x e

  pub clock-formed : WellFormed x
  clock-formed = formed-written set-clock

  pub clock-running : c.running ≡ big_endian x (running_at (layout_of (length x))) 4
  clock-running = sym (ap (λ (t : Table). t.clock.running) set-clock.read) ∙ running-read x

  pub moved : (place : ℕ) → c ≡ advance (cycle_in (read_table b)) (read_table b).clock place → (y : List ℕ) (k : ℕ)
      → Written y (free_run_out (read_table x)) × (k ≡ count (read_table x).slots (slot_run_out c.running))
      → Written y (moved_on (read_table b) place) × (k ≡ freed_by (read_table b) place)
  unfolding moved_on freed_by
  moved place g y k h =
      let t : read_table x ≡ with_clock (read_table b) (advance (cycle_in (read_table b)) (read_table b).clock place) = set-clock.read ∙ ap (with_clock (read_table b)) g in (
        subst (λ (z : Table). Written y (free_run_out z)) t h.0,
        h.1 ∙ ap (λ (z : Table). count z.slots (slot_run_out c.running)) t ∙ ap (λ (z : Clock). count (read_table b).slots (slot_run_out z.running)) g,
      )

  -- where none has run out, none ends
  pub stays : (place : ℕ) → c ≡ advance (cycle_in (read_table b)) (read_table b).clock place → count (read_table b).slots (slot_run_out c.running) ≡ 0
      → Written x (moved_on (read_table b) place) × (0 ≡ freed_by (read_table b) place)
  stays place g z =
      let t = with_clock (read_table b) c in
      let same : free_run_out (read_table x) ≡ t = ap free_run_out set-clock.read ∙ ap (with_slots t) (none_out c.running (read_table b).slots z) in
      moved place g x 0 (
        subst (Written x) (sym same) set-clock,
        sym (ap (λ (y : Table). count y.slots (slot_run_out c.running)) set-clock.read ∙ z),
      )
