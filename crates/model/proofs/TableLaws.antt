-- The table's bytes: their length, and what a slot or the clock written over makes of them. Assumes nothing.
use Prim.Native.Nat.{ℕ, suc, ◌+◌, ◌-◌, ◌*◌, ◌≤◌, ◌<◌}
use native.Mathlib.Nat.{mul-suc, mul-zero}
use native.Mathlib.Numerals.{add-one}
use native.Mathlib.Omega.{arith}
use mathlib.Core.Path.{◌≡◌, refl, sym, ap, ◌∙◌}
use mathlib.Core.List.{List, [], ◌∷◌, ◌++◌, append_assoc}
use lib.ListN.{length, get_or, take, drop, set, replicate, length-append}
use lib.Seq.{split_at, set_split, length-take-le, get_or-take}
use lib.Dec.{lit<}
use Rattle.model.specs.Lists.{up_to, flat}
use Rattle.model.specs.Numbers.{Bytes, splice, encode}
use Rattle.model.specs.Clock.{Clock, Weeks, ten_bit, thirteen_bit}
use Rattle.model.specs.Table.{Line, Slot, free, held, Layout, Table, slot_bytes, line_bytes, unused_line, roster_bytes, kind_with, clock_kind, place_bytes, clock_bytes, table_bytes, lines_at, base, slot_at, size_of}
use Rattle.model.specs.Sound.{FitsSlot, Fits}
use Rattle.model.specs.Serve.{with_slot, with_clock}
use Rattle.model.proofs.NumberLaws.{splice-none, splice-splice, splice-mid, length-encode, encode-first, bytes-nil, bytes-append, bytes-cons, bytes-encode, bytes-zeros}
use Rattle.model.proofs.ListLaws.{get_or-any, up_to-none, flat_append, flat-next, length-flat, length-rows}
use Rattle.model.proofs.SlotLaws.{fits-short, length-slot, length-line, length-unused}

-- ROWS of one width
module _ {A : Type 0} (f : A → List ℕ) where
  pub flat-cut : (l : List A) (i : ℕ) (d : A) → i < length l → flat f l ≡ flat f (take i l) ++ (f (get_or l i d) ++ flat f (drop (suc i) l))
  unfolding flat
  flat-cut l i d h = ap (flat f) (split_at l i d h) ∙ flat_append f (take i l) (get_or l i d ∷ drop (suc i) l)

  module _ (w : ℕ) (l : List A) (ok : (i : ℕ) (d : A) → i < length l → length (f (get_or l i d)) ≡ w) where
    pub length_front : (i : ℕ) → i ≤ length l → length (flat f (take i l)) ≡ w * i
    length_front i h =
        let e : length (take i l) ≡ i = length-take-le i l h in
        length-flat f w (take i l) (λ j d m. let m' : j < i = rw e at m in rw (get_or-take i l j d m') (ok j d (omega arith))) ∙ ap (λ (k : ℕ). w * k) e

    -- a row replaced, behind a head of k bytes
    pub flat-set : (p : List ℕ) (k i : ℕ) (x : A) → length p ≡ k → i < length l → splice (k + w * i) w (f x) (p ++ flat f l) ≡ p ++ flat f (set l i x)
    unfolding flat
    flat-set p k i x pk h =
        let e : flat f l ≡ flat f (take i l) ++ (f (get_or l i x) ++ flat f (drop (suc i) l)) = flat-cut l i x h in
        let s : flat f (set l i x) ≡ flat f (take i l) ++ (f x ++ flat f (drop (suc i) l)) =
        ap (flat f) (set_split l i x h) ∙ flat_append f (take i l) (x ∷ drop (suc i) l) in
        let lp : length (p ++ flat f (take i l)) ≡ k + w * i = length-append p (flat f (take i l)) ∙ (rw (pk, length_front i (omega arith))) in
        let whole : p ++ flat f l ≡ (p ++ flat f (take i l)) ++ (f (get_or l i x) ++ flat f (drop (suc i) l)) = rw (e, append_assoc) in
        rw (whole, s)
        (splice-mid (p ++ flat f (take i l)) (f (get_or l i x)) (flat f (drop (suc i) l)) (f x) (k + w * i) w lp (ok i x h)
        ∙ append_assoc p (flat f (take i l)) (f x ++ flat f (drop (suc i) l)))

  -- rows written one after the other from index at
  module _ (w : ℕ) (g : ℕ → A) (at : ℕ) (s : List ℕ) where
    pub rows_none : splice at (w * 0) (flat f (up_to 0 g)) s ≡ s
    unfolding flat
    rows_none = rw (mul-zero, up_to-none g) (splice-none at s)

    pub rows_next : (i : ℕ) → ((j : ℕ) → length (f (g j)) ≡ w) → at + w * (i + 1) ≤ length s
        → splice (at + w * i) w (f (g i)) (splice at (w * i) (flat f (up_to i g)) s) ≡ splice at (w * (i + 1)) (flat f (up_to (i + 1) g)) s
    rows_next i ok h =
        let e : w * (i + 1) ≡ w * i + w = rw (add-one, mul-suc) in
        rw (e, flat-next f i g) (splice-splice at (w * i) w (flat f (up_to i g)) (f (g i)) s (length-rows f w i g (λ j l. ok j)) (rw e at h))

-- LENGTHS
pub length-roster : (ls : List Line) → length ls ≤ 16 → length (roster_bytes ls) ≡ 304
unfolding roster_bytes
length-roster ls h =
    let l1 = length-flat line_bytes 19 ls (λ i d l. length-line (get_or ls i d)) in
    let l2 = length-rows (λ (i : ℕ). unused_line) 19 (16 - length ls) (λ i. i) (λ i l. length-unused) in
    rw (length-append, l1, l2) (omega arith)

pub length-clock : (l : Layout) (c : Clock) → length (clock_bytes l c) ≡ lines_at l
unfolding clock_bytes
length-clock l c = length-encode ((1, clock_kind l) ∷ (place_bytes l, c.place) ∷ (4, c.running) ∷ []) ∙ (omega arith)

-- ALL ARE BYTES

pub bytes-slot : (s : Slot) → FitsSlot s → Bytes (slot_bytes s)
unfolding slot_bytes
bytes-slot free f = bytes-cons 4 (replicate 319 0) (lit< tt) (bytes-zeros 319)
bytes-slot (held e) f =
    bytes-append (encode _) (e.name ++ replicate (280 - length e.name) 0) (bytes-encode _)
    (bytes-append e.name (replicate (280 - length e.name) 0) f.bytes (bytes-zeros (280 - length e.name)))

bytes-flat : {A : Type 0} (f : A → List ℕ) (d : A) (l : List A) → ((i : ℕ) → i < length l → Bytes (f (get_or l i d))) → Bytes (flat f l)
unfolding flat
bytes-flat f d [] h = bytes-nil
bytes-flat f d (x ∷ l) h = bytes-append (f x) (flat f l) (h 0 (omega arith)) (bytes-flat f d l (λ i m. h (suc i) (omega arith)))

bytes-line : (l : Line) → Bytes (line_bytes l)
unfolding line_bytes
bytes-line l = bytes-encode _

bytes-unused : Bytes unused_line
unfolding unused_line
bytes-unused = bytes-cons 2 (replicate 18 0) (lit< tt) (bytes-zeros 18)

pub bytes-roster : (ls : List Line) → Bytes (roster_bytes ls)
unfolding roster_bytes
bytes-roster ls =
    bytes-append (flat line_bytes ls) (flat (λ (i : ℕ). unused_line) (up_to (16 - length ls) (λ i. i)))
    (bytes-flat line_bytes (record { address = 0; share = 0; limit = 0 }) ls (λ i m. bytes-line _))
    (bytes-flat (λ (i : ℕ). unused_line) 0 (up_to (16 - length ls) (λ i. i)) (λ i m. bytes-unused))

bytes-clock : (l : Layout) (c : Clock) → Bytes (clock_bytes l c)
unfolding clock_bytes
bytes-clock l c = bytes-encode _

pub bytes-table : (t : Table) → Fits t → Bytes (table_bytes t)
unfolding table_bytes
bytes-table t f =
    bytes-append (clock_bytes t.layout t.clock) (roster_bytes t.roster ++ flat slot_bytes t.slots) (bytes-clock t.layout t.clock)
    (bytes-append (roster_bytes t.roster) (flat slot_bytes t.slots) (bytes-roster t.roster)
    (bytes-flat slot_bytes free t.slots (λ i m. bytes-slot (get_or t.slots i free) (f.slots i m))))

-- WRITTEN OVER

module _ (t : Table) (lines : length t.roster ≤ 16) (f : Fits t) where
  pub fits-rows : (i : ℕ) (d : Slot) → i < length t.slots → length (slot_bytes (get_or t.slots i d)) ≡ 320
  fits-rows i d l = rw (get_or-any t.slots i d free l) (length-slot (get_or t.slots i free) (fits-short (get_or t.slots i free) (f.slots i l)))

  length-head : length (clock_bytes t.layout t.clock ++ roster_bytes t.roster) ≡ base t.layout
  length-head = rw (length-append, length-clock t.layout t.clock, length-roster t.roster lines)

  pub length-table : length (table_bytes t) ≡ size_of t.layout (length t.slots)
  unfolding table_bytes
  length-table =
      rw (length-append, length-append, length-clock t.layout t.clock, length-roster t.roster lines, length-flat slot_bytes 320 t.slots fits-rows)
      (omega arith)

  -- slot i written over: the table with that slot
  pub with-slot : (i : ℕ) (s : Slot) → i < length t.slots → splice (slot_at t.layout i) 320 (slot_bytes s) (table_bytes t) ≡ table_bytes (with_slot t i s)
  unfolding table_bytes
  with-slot i s h =
      sym (ap (splice (slot_at t.layout i) 320 (slot_bytes s)) (append_assoc (clock_bytes t.layout t.clock) (roster_bytes t.roster) (flat slot_bytes t.slots)))
      ∙ flat-set slot_bytes 320 t.slots fits-rows (clock_bytes t.layout t.clock ++ roster_bytes t.roster) (base t.layout) i s length-head h
      ∙ append_assoc (clock_bytes t.layout t.clock) (roster_bytes t.roster) (flat slot_bytes (set t.slots i s))

-- the clock's bytes behind its kind written over: the table with that clock
abbrev pub clock_fields : Layout → Clock → List (ℕ × ℕ)
clock_fields l c = (place_bytes l, c.place) ∷ (4, c.running) ∷ []

kind-byte : (w : Weeks) → kind_with w < 256
kind-byte ten_bit = lit< tt
kind-byte thirteen_bit = lit< tt

pub clock-starts : (l : Layout) (c : Clock) → clock_bytes l c ≡ clock_kind l ∷ encode (clock_fields l c)
unfolding clock_bytes
clock-starts l c = encode-first (clock_kind l) (clock_fields l c) (kind-byte l.weeks)

pub length-clock-fields : (l : Layout) (c : Clock) → length (encode (clock_fields l c)) ≡ place_bytes l + 4
length-clock-fields l c = length-encode (clock_fields l c)

over-clock : (l : Layout) (c d : Clock) (q : List ℕ) → splice 1 (place_bytes l + 4) (encode (clock_fields l d)) (clock_bytes l c ++ q) ≡ clock_bytes l d ++ q
over-clock l c d q =
    rw (clock-starts l c, clock-starts l d)
    (splice-mid (clock_kind l ∷ []) (encode (clock_fields l c)) q (encode (clock_fields l d)) 1 (place_bytes l + 4) refl (length-clock-fields l c))

pub with-clock : (t : Table) (c : Clock)
    → splice 1 (place_bytes t.layout + 4) (encode (clock_fields t.layout c)) (table_bytes t) ≡ table_bytes (with_clock t c)
unfolding table_bytes
with-clock t c = over-clock t.layout t.clock c (roster_bytes t.roster ++ flat slot_bytes t.slots)
