-- A slot and a line: their bytes, and each read back from behind other bytes. Assumes nothing.
use Prim.Native.Nat.{ℕ, ◌+◌, ◌-◌, ◌^◌, ◌≤◌, ◌<◌}
use native.Mathlib.Nat.{add-zero}
use native.Mathlib.Omega.{arith}
use mathlib.Core.Path.{◌≡◌, refl, sym, ap, ◌∙◌}
use mathlib.Core.Bool.{Bool, true, false, ◌||◌}
use mathlib.Core.List.{List, [], ◌∷◌, ◌++◌, append_assoc}
use lib.ListN.{length, get_or, replicate, length-append, length-replicate}
use lib.Seq.{get_or_at, take_at, drop_at}
use lib.Dec.{eqb, lit<}
use Rattle.model.specs.Numbers.{big_endian, part, encode}
use Rattle.model.proofs.Fields.{offset}
use Rattle.model.specs.Table.{Line, Entry, Slot, free, held, entry_fields, kind_of, slot_bytes, line_bytes, unused_line, read_line, read_entry, read_slot}
use Rattle.model.specs.Sound.{FitsEntry, FitsSlot, FitsLine}
use Rattle.model.proofs.NumberLaws.{length-encode, big-one, big-skip, field_at}

-- the name has at most 255 bytes
abbrev pub Short : Slot → Type 0
Short free = Unit {0}
Short (held e) = length e.name ≤ 255

pub length-slot : (s : Slot) → Short s → length (slot_bytes s) ≡ 320
unfolding slot_bytes
length-slot free h = refl
length-slot (held e) h = simp (length-append, length-encode, length-replicate) (omega arith)

pub length-line : (l : Line) → length (line_bytes l) ≡ 19
unfolding line_bytes
length-line l = length-encode _

pub length-unused : length unused_line ≡ 19
unfolding unused_line
length-unused = refl

pub kind-lt : (b : Bool) → kind_of b < 256
kind-lt true = lit< tt
kind-lt false = lit< tt

kind-is : (b : Bool) → eqb (kind_of b) 6 ≡ b
kind-is true = refl
kind-is false = refl

kind-held : (b : Bool) → eqb (kind_of b) 5 || eqb (kind_of b) 6 ≡ true
kind-held true = refl
kind-held false = refl

-- what was written is read: a field of an entry, behind k bytes
pub field-behind : (p : List ℕ) (k : ℕ) (fs : List (ℕ × ℕ)) (q : List ℕ) (i : ℕ) → length p ≡ k → i < length fs
    → (get_or fs i (0, 0)).1 < 256 ^ (get_or fs i (0, 0)).0
    → big_endian (p ++ (encode fs ++ q)) (k + offset fs i) (get_or fs i (0, 0)).0 ≡ (get_or fs i (0, 0)).1
field-behind p k fs q i e l h = big-skip p (encode fs ++ q) k (offset fs i) (get_or fs i (0, 0)).0 e ∙ field_at fs q i l h

name-behind : (p : List ℕ) (k : ℕ) (f n z q : List ℕ) → length p ≡ k → length f ≡ 40 → part (k + 40) (length n) (p ++ (f ++ ((n ++ z) ++ q))) ≡ n
unfolding part
name-behind p k f n z q pk e =
    let l : length (p ++ f) ≡ k + 40 = simp length-append (omega arith) in
    rw (← append_assoc p f ((n ++ z) ++ q), drop_at (p ++ f) ((n ++ z) ++ q) (k + 40) l, append_assoc n z q, take_at n (z ++ q) (length n) refl)

pub entry-back : (p : List ℕ) (k : ℕ) (e : Entry) (q : List ℕ) → length p ≡ k → FitsEntry e → read_entry (p ++ (slot_bytes (held e) ++ q)) k ≡ e
unfolding read_entry slot_bytes
entry-back p k e q pk v =
    let fs = entry_fields e in
    let r = (e.name ++ replicate (280 - length e.name) 0) ++ q in
    let s = p ++ (encode fs ++ r) in
    let asc : p ++ ((encode fs ++ (e.name ++ replicate (280 - length e.name) 0)) ++ q) ≡ s = rw append_assoc in
    let kd : get_or s k 0 ≡ kind_of e.established =
    sym (big-one s k) ∙ (rw add-zero at (field-behind p k fs r 0 pk (lit< tt) (kind-lt e.established))) in
    let ln : get_or s (k + 39) 0 ≡ length e.name = sym (big-one s (k + 39)) ∙ field-behind p k fs r 8 pk (lit< tt) (omega arith) in
    let nm : part (k + 40) (length e.name) s ≡ e.name =
    name-behind p k (encode fs) e.name (replicate (280 - length e.name) 0) q pk (length-encode fs) in
    rw (
      asc,
      kd,
      kind-is,
      ln,
      nm,
      field-behind p k fs r 1 pk (lit< tt) v.address,
      field-behind p k fs r 2 pk (lit< tt) v.port,
      field-behind p k fs r 3 pk (lit< tt) v.number,
      field-behind p k fs r 4 pk (lit< tt) v.lease,
      field-behind p k fs r 5 pk (lit< tt) v.stamp,
      field-behind p k fs r 6 pk (lit< tt) v.qtype,
      field-behind p k fs r 7 pk (lit< tt) v.qclass,
    )

pub slot-back : (p : List ℕ) (k : ℕ) (s : Slot) (q : List ℕ) → length p ≡ k → FitsSlot s → read_slot (p ++ (slot_bytes s ++ q)) k ≡ s
unfolding read_slot slot_bytes
slot-back p k free q pk v = let kd : get_or (p ++ (4 ∷ (replicate 319 0 ++ q))) k 0 ≡ 4 = get_or_at p 4 (replicate 319 0 ++ q) 0 k pk in rw kd
slot-back p k (held e) q pk v =
    let en = entry-back p k e q pk v in
    let fs = entry_fields e in
    let r = (e.name ++ replicate (280 - length e.name) 0) ++ q in
    let asc : p ++ ((encode fs ++ (e.name ++ replicate (280 - length e.name) 0)) ++ q) ≡ p ++ (encode fs ++ r) = rw append_assoc in
    let kd : get_or (p ++ (encode fs ++ r)) k 0 ≡ kind_of e.established =
    sym (big-one _ k) ∙ (rw add-zero at (field-behind p k fs r 0 pk (lit< tt) (kind-lt e.established))) in
    rw (asc, kd, kind-held) (ap held (rw asc at en))

pub fits-short : (s : Slot) → FitsSlot s → Short s
fits-short free f = tt
fits-short (held e) f = f.size

-- a line behind k bytes
module _ (p : List ℕ) (k : ℕ) (l : Line) (q : List ℕ) (pk : length p ≡ k) (f : FitsLine l) where
  pub line-kind : get_or (p ++ (line_bytes l ++ q)) k 0 ≡ 3
  unfolding line_bytes
  line-kind =
      sym (big-one _ k)
      ∙ (rw add-zero at (field-behind p k ((1, 3) ∷ (16, l.address) ∷ (1, l.share) ∷ (1, l.limit) ∷ []) q 0 pk (lit< tt) (lit< tt)))

  pub line-back : read_line (p ++ (line_bytes l ++ q)) k ≡ l
  unfolding line_bytes read_line
  line-back =
      let fs : List (ℕ × ℕ) = (1, 3) ∷ (16, l.address) ∷ (1, l.share) ∷ (1, l.limit) ∷ [] in
      rw (
        ← big-one (p ++ (encode fs ++ q)) (k + 17),
        ← big-one (p ++ (encode fs ++ q)) (k + 18),
        field-behind p k fs q 1 pk (lit< tt) f.address,
        field-behind p k fs q 2 pk (lit< tt) f.share,
        field-behind p k fs q 3 pk (lit< tt) f.limit,
      )
