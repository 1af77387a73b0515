-- Laws for one slot or the clock written in place: the bytes are again those of a table. Assumes nothing.
use Prim.Native.Nat.{ℕ, ◌+◌, ◌-◌, ◌*◌, ◌^◌, ◌≤◌, ◌<◌}
use native.Mathlib.Omega.{arith}
use mathlib.Core.Path.{◌≡◌, refl, sym, ap, ◌∙◌, subst}
use mathlib.Core.List.{List, [], ◌∷◌, ◌++◌, append_assoc}
use lib.ListN.{length, take, drop, replicate, length-append}
use lib.Seq.{length-take-le, take_at, drop_at}
use Rattle.model.specs.Lists.{flat}
use Rattle.model.specs.Numbers.{Bytes, bytes_of, part, splice, encode}
use Rattle.model.specs.Clock.{Clock}
use Rattle.model.specs.Table.{Entry, Slot, free, held, Layout, Table, place_bytes, clock_bytes, roster_bytes, slot_bytes, table_bytes, read_table, read_slot, base, slot_at, size_of, layout_of, slots_in, unused_line, kind_of}
use Rattle.model.specs.Rules.{granted_lease}
use Rattle.model.specs.Sound.{FitsSlot, Fits}
use Rattle.model.specs.Serve.{with_clock, with_slots, with_slot, establish, renew}
use Rattle.model.proofs.NumberLaws.{splice-splice, splice-mid, splice-part, length-encode, encode-first}
use Rattle.model.proofs.SlotLaws.{kind-lt}
use Rattle.model.proofs.TableLaws.{with-slot, clock_fields, with-clock, length-clock, length-roster}
use Rattle.model.proofs.RoundTrip.{table-back}
use Rattle.model.proofs.Meaning.{fits_read, lines-read, slots_read, layout-read}
use Rattle.model.proofs.StepLaws.{fits-with-slot, fits-with-clock}
use Rattle.layout.proofs.ReadLaws.{formed-size, formed-slot}
use Rattle.layout.proofs.PartLaws.{part-drop, tail-is, slots_read as slots-part}
use Rattle.table.specs.Written.{WellFormed, FormedSlots, Written}

-- bytes that are not written stay as they are
pub unwritten : (b : List ℕ) → WellFormed b → Written b (read_table b)
unwritten b formed = record { bytes = sym formed; read = refl }

-- a table that fits is read back, and its bytes are formed
pub written : (b : List ℕ) (t : Table) → length t.roster ≤ 16 → Fits t → b ≡ table_bytes t → Written b t
written b t l f e = record { bytes = e; read = ap read_table e ∙ table-back t l f }

pub formed-written : {b : List ℕ} {t : Table} → Written b t → WellFormed b
formed-written w = ap table_bytes w.read ∙ sym w.bytes

-- the size is kept
pub formed-n : (b : List ℕ) → Bytes b → WellFormed b → (n : ℕ) → n ≡ slots_in (length b) → length b ≡ size_of (layout_of (length b)) n
formed-n b bytes formed n e = rw e (formed-size b bytes formed)

module _ (b : List ℕ) (bytes : Bytes b) (formed : WellFormed b) where
  abbrev l : Layout
  l = layout_of (length b)

  -- slot i written
  pub slot-written : (i : ℕ) (s : Slot) → i < slots_in (length b) → FitsSlot s → (x : List ℕ) → x ≡ splice (slot_at l i) 320 (slot_bytes s) b
      → Written x (with_slot (read_table b) i s)
  slot-written i s h f x e =
      let r = fits_read b bytes in
      written x (with_slot (read_table b) i s) (lines-read b) (fits-with-slot (read_table b) i s r f)
      (e
      ∙ ap (λ (k : Layout). splice (slot_at k i) 320 (slot_bytes s) b) (sym (layout-read b))
      ∙ ap (splice (slot_at (read_table b).layout i) 320 (slot_bytes s)) (sym formed)
      ∙ with-slot (read_table b) (lines-read b) r i s (rw (slots_read b) h))

  -- the clock written
  pub clock-written : (c : Clock) → c.place < 256 ^ place_bytes l → c.running < 256 ^ 4 → (x : List ℕ)
      → x ≡ splice 1 (place_bytes l + 4) (encode (clock_fields l c)) b → Written x (with_clock (read_table b) c)
  clock-written c p r x e =
      let k = (read_table b).layout in
      written x (with_clock (read_table b) c) (lines-read b) (fits-with-clock (read_table b) c (fits_read b bytes) (rw (layout-read b) p) r)
      (e
      ∙ ap (λ (j : Layout). splice 1 (place_bytes j + 4) (encode (clock_fields j c)) b) (sym (layout-read b))
      ∙ ap (splice 1 (place_bytes k + 4) (encode (clock_fields k c))) (sym formed)
      ∙ with-clock (read_table b) c)

  -- ITS SLOTS' PART
  abbrev head : List ℕ
  head = clock_bytes (read_table b).layout (read_table b).clock ++ roster_bytes (read_table b).roster

  head-length : length head ≡ base l
  head-length =
      rw (length-append, length-clock (read_table b).layout (read_table b).clock, length-roster (read_table b).roster (lines-read b), layout-read b)

  split : b ≡ head ++ flat slot_bytes (read_table b).slots
  unfolding table_bytes
  split =
      sym formed
      ∙ sym (append_assoc (clock_bytes (read_table b).layout (read_table b).clock) (roster_bytes (read_table b).roster) (flat slot_bytes (read_table b).slots))

  pub formed-slots : (n : ℕ) → length b ≡ size_of l n → FormedSlots (drop (base l) b) n
  formed-slots n size =
      ap (flat slot_bytes) (sym (slots-part b n size)) ∙ sym (ap (drop (base l)) split ∙ drop_at head (flat slot_bytes (read_table b).slots) (base l) head-length)

  pub with-slots : (s : List Slot) → take (base l) b ++ flat slot_bytes s ≡ table_bytes (with_slots (read_table b) s)
  unfolding table_bytes
  with-slots s =
      let t : take (base l) b ≡ head = ap (take (base l)) split ∙ take_at head (flat slot_bytes (read_table b).slots) (base l) head-length in
      rw t (append_assoc (clock_bytes (read_table b).layout (read_table b).clock) (roster_bytes (read_table b).roster) (flat slot_bytes s))

-- it is lent
pub lent-formed : {x : List ℕ} → WellFormed x → Bytes x → (n : ℕ) → length x ≡ size_of (layout_of (length x)) n → {a : ℕ} → a ≡ base (layout_of (length x))
    → FormedSlots (take (length x - a) (drop a x)) n
lent-formed {x = x} formed bytes n size e = subst (λ (y : List ℕ). FormedSlots y n) (sym (tail-is x e)) (formed-slots x bytes formed n size)

-- SOME FIELDS OF A ROW WRITTEN

pub row-edit : (b p m q vs : List ℕ) (at o k w : ℕ) → at ≤ length b → part at w b ≡ p ++ (m ++ q) → length p ≡ o → length m ≡ k
    → splice (at + o) k vs b ≡ splice at w (p ++ (vs ++ q)) b
unfolding splice
row-edit b p m q vs at o k w h e lp lm =
    let x = take at b in
    let z = drop (at + w) b in
    let whole : b ≡ (x ++ p) ++ (m ++ (q ++ z)) =
    sym (splice-part at w b) ∙ ap (λ (s : List ℕ). x ++ (s ++ z)) e ∙ simp append_assoc in
    let l : length (x ++ p) ≡ at + o = length-append x p ∙ (rw (length-take-le at b h, lp)) in
    ap (splice (at + o) k vs) whole ∙ splice-mid (x ++ p) m (q ++ z) vs (at + o) k l lm ∙ simp append_assoc

encode-append : (f g : List (ℕ × ℕ)) → encode (f ++ g) ≡ encode f ++ encode g
unfolding encode
encode-append [] g = refl
encode-append (x ∷ f) g = ap (λ (s : List ℕ). bytes_of x.0 x.1 ++ s) (encode-append f g) ∙ sym (append_assoc (bytes_of x.0 x.1) (encode f) (encode g))

-- an entry's fields before the lease, and behind the stamp
abbrev before : Entry → List (ℕ × ℕ)
before e = (1, kind_of e.established) ∷ (16, e.address) ∷ (2, e.port) ∷ (8, e.number) ∷ []

abbrev behind : Entry → List ℕ
behind e =
    encode ((2, e.qtype) ∷ (2, e.qclass) ∷ (1, length e.name) ∷ []) ++ (e.name ++ replicate (280 - length e.name) 0)

abbrev times : Entry → List (ℕ × ℕ)
times e = (4, e.lease) ∷ (4, e.stamp) ∷ []

in_parts : (e : Entry) → slot_bytes (held e) ≡ encode (before e) ++ (encode (times e) ++ behind e)
unfolding slot_bytes
in_parts e =
    let c : List (ℕ × ℕ) = (2, e.qtype) ∷ (2, e.qclass) ∷ (1, length e.name) ∷ [] in
    let z = e.name ++ replicate (280 - length e.name) 0 in
    ap (λ (s : List ℕ). s ++ z) (encode-append (before e) (times e ++ c) ∙ ap (λ (s : List ℕ). encode (before e) ++ s) (encode-append (times e) c))
    ∙ simp append_assoc

-- the kind alone, and the rest
rest : Entry → List (ℕ × ℕ)
rest e =
    (16, e.address) ∷ (2, e.port) ∷ (8, e.number) ∷ (4, e.lease) ∷ (4, e.stamp) ∷ (2, e.qtype) ∷ (2, e.qclass) ∷ (1, length e.name) ∷ []

by_kind : (e : Entry) → slot_bytes (held e) ≡ (kind_of e.established ∷ []) ++ (encode (rest e) ++ (e.name ++ replicate (280 - length e.name) 0))
unfolding slot_bytes rest
by_kind e = ap (λ (s : List ℕ). s ++ (e.name ++ replicate (280 - length e.name) 0)) (encode-first (kind_of e.established) (rest e) (kind-lt e.established))

module _ (b : List ℕ) (bytes : Bytes b) (formed : WellFormed b) (i : ℕ) (h : i < slots_in (length b)) (e : Entry) (here : read_slot (drop (base (layout_of (length b))) b) (320 * i) ≡ held e) where
  abbrev at : ℕ
  at = slot_at (layout_of (length b)) i

  row : part (at) 320 b ≡ slot_bytes (held e)
  row = sym (part-drop (base (layout_of (length b))) b (320 * i) 320) ∙ sym (formed-slot b bytes formed i h) ∙ ap slot_bytes here

  pub establish-bytes : splice (at) 1 (bytes_of 1 6) b ≡ splice (at) 320 (slot_bytes (held (establish e))) b
  unfolding rest bytes_of
  establish-bytes =
      let z : at ≡ at + 0 = omega arith in
      ap (λ (k : ℕ). splice k 1 (6 ∷ []) b) z
      ∙ row-edit b [] (kind_of e.established ∷ []) (encode (rest e) ++ (e.name ++ replicate (280 - length e.name) 0)) (6 ∷ []) (at) 0 1 320
      (omega (arith, formed-size b bytes formed)) (row ∙ by_kind e) refl refl
      ∙ ap (λ (s : List ℕ). splice (at) 320 s b) (sym (by_kind (establish e)))

  pub renew-bytes : (running asked lease : ℕ) → lease ≡ granted_lease asked
      → splice (at + 27) 8 (encode ((4, lease) ∷ (4, running) ∷ [])) b ≡ splice (at) 320 (slot_bytes (held (renew running asked e))) b
  renew-bytes running asked lease g =
      row-edit b (encode (before e)) (encode (times e)) (behind e) (encode ((4, lease) ∷ (4, running) ∷ [])) (at) 27 8 320
      (omega (arith, formed-size b bytes formed)) (row ∙ in_parts e) (length-encode (before e)) (length-encode (times e))
      ∙ ap (λ (s : List ℕ). splice (at) 320 s b)
      (ap (λ (k : ℕ). encode (before e) ++ (encode ((4, k) ∷ (4, running) ∷ []) ++ behind e)) g ∙ sym (in_parts (renew running asked e)))

pub free_bytes : (s : List ℕ) (a : ℕ) → a + 320 ≤ length s → splice (a + 1) 319 (replicate 319 0) (splice a 1 (bytes_of 1 4) s) ≡ splice a 320 (slot_bytes free) s
unfolding slot_bytes bytes_of
free_bytes s a h = splice-splice a 1 319 (4 ∷ []) (replicate 319 0) s refl (omega arith)

pub unused-bytes : (s : List ℕ) (a : ℕ) → a + 19 ≤ length s → splice (a + 1) 18 (replicate 18 0) (splice a 1 (bytes_of 1 2) s) ≡ splice a 19 unused_line s
unfolding unused_line bytes_of
unused-bytes s a h = splice-splice a 1 18 (2 ∷ []) (replicate 18 0) s refl (omega arith)
