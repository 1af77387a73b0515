-- The table's layout, place by place, of the model's encoder and reader. Assumes nothing.
use Prim.Native.Nat.{ℕ, zero, suc, ◌+◌, ◌-◌, ◌*◌, ◌^◌, ◌≤◌, ◌<◌}
use native.Mathlib.Nat.{add-zero, add_assoc}
use native.Mathlib.Omega.{arith}
use mathlib.Core.Path.{◌≡◌, refl, sym, ap, ◌∙◌, subst}
use mathlib.Core.Bool.{true, false}
use mathlib.Core.List.{List, [], ◌∷◌, ◌++◌, append_assoc, append-nil}
use mathlib.Core.Logic.{⊎_elim}
use lib.ListN.{length, get_or, take, drop, replicate, get_or-append, length-append, get_or-replicate}
use lib.Seq.{get_or-append-add, ext_get_or}
use lib.Dec.{ltb, lit<}
use borrow.Author.Tests.{ltb-true, ltb-false}
use Rattle.model.specs.Lists.{up_to, flat}
use Rattle.model.specs.Numbers.{Bytes, big_endian, bytes_of, part, encode}
use Rattle.model.specs.Clock.{Weeks, ten_bit, thirteen_bit}
use Rattle.model.specs.Table.{Line, Entry, Slot, free, held, Layout, Table, clock_kind, place_bytes, running_at, lines_at, base, line_at, slot_at, size_of, entry_fields, kind_of, clock_bytes, line_bytes, unused_line, slot_bytes, roster_bytes, table_bytes, read_line, read_entry}
use Rattle.model.specs.Sound.{FitsLine, FitsEntry, FitsSlot, Fits}
use Rattle.model.proofs.ListLaws.{test, length-flat, length-up_to}
use Rattle.model.proofs.NumberLaws.{big_lt, bytes-big, big-ext, big-one, get_or-part, length-encode, encode-first}
use Rattle.model.proofs.SlotLaws.{length-line, length-unused, kind-lt, entry-back, line-back, field-behind}
use Rattle.model.proofs.TableLaws.{flat-cut, length_front, length-roster, length-clock, bytes-table, fits-rows, length-table, clock_fields, clock-starts}
use Rattle.model.proofs.RoundTrip.{no_line, table-back}
use Rattle.claims.specs.NumbersInBytes.{value_at}
use Rattle.claims.specs.SoundRules.{line_in}
use Rattle.claims.specs.TableLayout.{ClockRecord, LineRecord, ZeroRecord, EntryRecord, SlotRecord, Places, offsets_of, RecordsAt, TableRecords, TableLayout}
use Rattle.claims.proofs.NumbersInBytes.{all-bytes, value-is}
use Rattle.claims.proofs.SoundRules.{sound-exactly}

-- THE PLACES of the model's layout, which are those written out
abbrev model_places : Layout → Places
model_places l = record { kind = clock_kind l; width = place_bytes l; running = running_at l; lines = lines_at l; slots = base l }

places-are : (w : Weeks) → model_places (record { weeks = w }) ≡ offsets_of w
places-are ten_bit = refl
places-are thirteen_bit = refl

-- ---- THE TABLE'S BYTES ARE LAID OUT SO

-- the k bytes of b from a place are those of a record
Record : List ℕ → ℕ → ℕ → List ℕ → Type 0
Record b at k xs = (i : ℕ) → i < k → get_or b (at + i) 0 ≡ get_or xs i 0

-- ROWS of w bytes behind p and before q
module _ {A : Type 0} (f : A → List ℕ) (w : ℕ) (l : List A) (ok : (i : ℕ) (d : A) → i < length l → length (f (get_or l i d)) ≡ w) where
  row : (p q : List ℕ) (k : ℕ) (i : ℕ) (d : A) → length p ≡ k → i < length l → Record (p ++ (flat f l ++ q)) (k + w * i) w (f (get_or l i d))
  unfolding Record
  row p q k i d pk h j m =
      let front = flat f (take i l) in
      let x = f (get_or l i d) in
      let back = flat f (drop (suc i) l) in
      let whole : p ++ (flat f l ++ q) ≡ (p ++ front) ++ (x ++ (back ++ q)) = rw (flat-cut f l i d h) (simp append_assoc) in
      let head : length (p ++ front) ≡ k + w * i = length-append p front ∙ (rw (pk, length_front f w l ok i (omega arith))) in
      let at : k + w * i + j ≡ length (p ++ front) + j = rw head in
      rw (whole, at) (get_or-append-add (p ++ front) (x ++ (back ++ q)) j 0 ∙ get_or-append x (back ++ q) 0 j (omega (arith, ok i d h)))

-- a number in a record
number_in : (b xs : List ℕ) (at w o k : ℕ) → Record b at w xs → o + k ≤ w → value_at b (at + o) k ≡ big_endian xs o k
unfolding Record
number_in b xs at w o k r h =
    sym (value-is b (at + o) k)
    ∙ big-ext b xs (at + o) o k (λ i l. ap (λ (j : ℕ). get_or b j 0) (add_assoc at o i) ∙ r (o + i) (omega arith))

first_byte : (b xs : List ℕ) (at w : ℕ) → Record b at w xs → 0 < w → get_or b at 0 ≡ get_or xs 0 0
unfolding Record
first_byte b xs at w r h = ap (λ (j : ℕ). get_or b j 0) (sym (add-zero at)) ∙ r 0 h

line-laid : (b : List ℕ) (at : ℕ) (l : Line) → FitsLine l → Record b at 19 (line_bytes l) → LineRecord b at l
unfolding Record line_bytes read_line
line-laid b at l f r =
    let back : read_line (line_bytes l ++ []) 0 ≡ l = line-back [] 0 l [] refl f in
    let same : line_bytes l ++ [] ≡ line_bytes l = append-nil (line_bytes l) in
    let read : read_line (line_bytes l) 0 ≡ l = rw same at back in
    record {
      kind = first_byte b (line_bytes l) at 19 r (lit< tt) ∙ (rw (encode-first 3 ((16, l.address) ∷ (1, l.share) ∷ (1, l.limit) ∷ []) (lit< tt)));
      address = number_in b (line_bytes l) at 19 1 16 r (lit< tt) ∙ ap (λ (x : Line). x.address) read;
      share = r 17 (lit< tt) ∙ ap (λ (x : Line). x.share) read;
      limit = r 18 (lit< tt) ∙ ap (λ (x : Line). x.limit) read;
    }

zeros-laid : (b : List ℕ) (at first body : ℕ) → Record b at (suc body) (first ∷ replicate body 0) → ZeroRecord b at first body
unfolding Record
zeros-laid b at first body r =
    record {
      kind = first_byte b (first ∷ replicate body 0) at (suc body) r (omega arith);
      zeros = λ i h.
          let e : at + 1 + i ≡ at + suc i = omega arith in
          ap (λ (j : ℕ). get_or b j 0) e ∙ r (suc i) (omega arith) ∙ get_or-replicate body i 0 0 h;
    }

module _ (b : List ℕ) (at : ℕ) (e : Entry) (f : FitsEntry e) (r : Record b at 320 (slot_bytes (held e))) where
  abbrev entry : List ℕ
  entry = slot_bytes (held e)

  read-entry : read_entry entry 0 ≡ e
  read-entry =
      let back : read_entry (entry ++ []) 0 ≡ e = entry-back [] 0 e [] refl f in
      let same : entry ++ [] ≡ entry = append-nil entry in
      rw same at back

  entry-kind : get_or entry 0 0 ≡ kind_of e.established
  unfolding slot_bytes
  entry-kind = rw (encode-first (kind_of e.established) (drop 1 (entry_fields e)) (kind-lt e.established))

  entry-size : get_or entry 39 0 ≡ length e.name
  unfolding slot_bytes
  entry-size =
      let rest = e.name ++ replicate (280 - length e.name) 0 in
      sym (big-one entry 39) ∙ field-behind [] 0 (entry_fields e) rest 8 refl (lit< tt) (omega (arith, f.size))

  -- behind the fields the name, and zeros behind it
  past-fields : (i : ℕ) → i < 280 → get_or b (at + 40 + i) 0 ≡ get_or (e.name ++ replicate (280 - length e.name) 0) i 0
  unfolding Record slot_bytes
  past-fields i h =
      let j : at + 40 + i ≡ at + (40 + i) = omega arith in
      let k : 40 + i ≡ length (encode (entry_fields e)) + i = omega (arith, length-encode (entry_fields e)) in
      ap (λ (j : ℕ). get_or b j 0) j ∙ r (40 + i) (omega arith) ∙ ap (λ (j : ℕ). get_or entry j 0) k
      ∙ get_or-append-add (encode (entry_fields e)) (e.name ++ replicate (280 - length e.name) 0) i 0

  entry-laid : EntryRecord b at e
  unfolding Record read_entry
  entry-laid =
      record {
        kind = first_byte b entry at 320 r (lit< tt) ∙ entry-kind;
        address = number_in b entry at 320 1 16 r (lit< tt) ∙ ap (λ (x : Entry). x.address) read-entry;
        port = number_in b entry at 320 17 2 r (lit< tt) ∙ ap (λ (x : Entry). x.port) read-entry;
        number = number_in b entry at 320 19 8 r (lit< tt) ∙ ap (λ (x : Entry). x.number) read-entry;
        lease = number_in b entry at 320 27 4 r (lit< tt) ∙ ap (λ (x : Entry). x.lease) read-entry;
        stamp = number_in b entry at 320 31 4 r (lit< tt) ∙ ap (λ (x : Entry). x.stamp) read-entry;
        qtype = number_in b entry at 320 35 2 r (lit< tt) ∙ ap (λ (x : Entry). x.qtype) read-entry;
        qclass = number_in b entry at 320 37 2 r (lit< tt) ∙ ap (λ (x : Entry). x.qclass) read-entry;
        size = r 39 (lit< tt) ∙ entry-size;
        name = λ i h. past-fields i (omega (arith, f.size)) ∙ get_or-append e.name (replicate (280 - length e.name) 0) 0 i h;
        zeros = λ i l h.
            let k : i ≡ length e.name + (i - length e.name) = omega arith in
            past-fields i h ∙ ap (λ (j : ℕ). get_or (e.name ++ replicate (280 - length e.name) 0) j 0) k
            ∙ get_or-append-add e.name (replicate (280 - length e.name) 0) (i - length e.name) 0
            ∙ get_or-replicate (280 - length e.name) (i - length e.name) 0 0 (omega arith);
      }

slot-laid : (b : List ℕ) (at : ℕ) (s : Slot) → FitsSlot s → Record b at 320 (slot_bytes s) → SlotRecord b at s
unfolding slot_bytes
slot-laid b at free f r = zeros-laid b at 4 319 r
slot-laid b at (held e) f r = entry-laid b at e f r

module _ (t : Table) (few : length t.roster ≤ 16) (f : Fits t) where
  abbrev line_rows : List ℕ
  line_rows = flat line_bytes t.roster

  abbrev spare : List ℕ
  spare = up_to (16 - length t.roster) (λ i. i)

  abbrev spare_rows : List ℕ
  spare_rows = flat (λ (i : ℕ). unused_line) spare

  abbrev slot_rows : List ℕ
  slot_rows = flat slot_bytes t.slots

  line-record : (i : ℕ) → i < length t.roster → Record (table_bytes t) (line_at t.layout i) 19 (line_bytes (line_in t.roster i))
  unfolding table_bytes roster_bytes
  line-record i h =
      rw append_assoc
      (row line_bytes 19 t.roster (λ i d l. length-line (get_or t.roster i d)) (clock_bytes t.layout t.clock) (spare_rows ++ slot_rows) (lines_at t.layout) i no_line
      (length-clock t.layout t.clock) h)

  unused-record : (i : ℕ) → length t.roster ≤ i → i < 16 → Record (table_bytes t) (line_at t.layout i) 19 unused_line
  unfolding table_bytes roster_bytes
  unused-record i l h =
      let m = length t.roster in
      let p = clock_bytes t.layout t.clock ++ line_rows in
      let pk : length p ≡ line_at t.layout m =
      length-append (clock_bytes t.layout t.clock) line_rows
      ∙ (rw (length-clock t.layout t.clock, length-flat line_bytes 19 t.roster (λ i d l. length-line (get_or t.roster i d)))) in
      let w : i - m < length spare = rw (length-up_to (16 - m) (λ i. i)) (omega arith) in
      let at : line_at t.layout m + 19 * (i - m) ≡ line_at t.layout i = omega arith in
      let whole : p ++ (spare_rows ++ slot_rows) ≡ clock_bytes t.layout t.clock ++ ((line_rows ++ spare_rows) ++ slot_rows) = simp append_assoc in
      rw (at, whole) at (row (λ (i : ℕ). unused_line) 19 spare (λ i d l. length-unused) p slot_rows (line_at t.layout m) (i - m) 0 pk w)

  slot-record : (j : ℕ) → j < length t.slots → Record (table_bytes t) (slot_at t.layout j) 320 (slot_bytes (get_or t.slots j free))
  unfolding table_bytes
  slot-record j h =
      let p = clock_bytes t.layout t.clock ++ roster_bytes t.roster in
      let pk : length p ≡ base t.layout = length-append (clock_bytes t.layout t.clock) (roster_bytes t.roster) ∙ (rw (length-clock t.layout t.clock, length-roster t.roster few)) in
      let whole : p ++ (slot_rows ++ []) ≡ clock_bytes t.layout t.clock ++ (roster_bytes t.roster ++ slot_rows) = rw (append-nil slot_rows) (simp append_assoc) in
      rw whole at (row slot_bytes 320 t.slots (fits-rows t few f) p [] (base t.layout) j free pk h)

  clock-laid : ClockRecord (model_places t.layout) (table_bytes t) t.clock
  unfolding table_bytes clock_bytes
  clock-laid =
      let b = table_bytes t in
      let l = t.layout in
      let fs : List (ℕ × ℕ) = (1, clock_kind l) ∷ clock_fields l t.clock in
      let rest = roster_bytes t.roster ++ slot_rows in
      record {
        kind = rw (clock-starts l t.clock);
        place = sym (value-is b 1 (place_bytes l)) ∙ field-behind [] 0 fs rest 1 refl (lit< tt) f.place;
        running =
            sym (value-is b (running_at l) 4) ∙ ap (λ (k : ℕ). big_endian b k 4) (omega arith) ∙ field-behind [] 0 fs rest 2 refl (lit< tt) f.running;
      }

  table-laid : RecordsAt (model_places t.layout) (table_bytes t) t
  unfolding unused_line
  table-laid =
      record {
        size = length-table t few f;
        octets = λ i h. bytes-table t f i;
        clock = clock-laid;
        listed = λ i h. line-laid (table_bytes t) (line_at t.layout i) (line_in t.roster i) (f.lines i h) (line-record i h);
        unused = λ i l h. zeros-laid (table_bytes t) (line_at t.layout i) 2 18 (unused-record i l h);
        slots = λ j h. slot-laid (table_bytes t) (slot_at t.layout j) (get_or t.slots j free) (f.slots j h) (slot-record j h);
      }

-- ---- AND NO OTHER BYTES ARE

-- THE VALUES FIT, as those of bytes do
value-lt : (b : List ℕ) (at k : ℕ) {x : ℕ} → Bytes b → value_at b at k ≡ x → x < 256 ^ k
value-lt b at k o e = rw (← e, ← value-is b at k) (big_lt b at k o)

byte-lt : (b : List ℕ) (at : ℕ) {x : ℕ} → Bytes b → get_or b at 0 ≡ x → x < 256
byte-lt b at o e = rw (← e) (o at)

line-fits : (b : List ℕ) (at : ℕ) (l : Line) → Bytes b → LineRecord b at l → FitsLine l
line-fits b at l o r =
    record {
      address = value-lt b (at + 1) 16 o r.address;
      share = byte-lt b (at + 17) o r.share;
      limit = byte-lt b (at + 18) o r.limit;
    }

slot-fits : (b : List ℕ) (at : ℕ) (s : Slot) → Bytes b → SlotRecord b at s → FitsSlot s
slot-fits b at free o r = tt
slot-fits b at (held e) o r =
    record {
      address = value-lt b (at + 1) 16 o r.address;
      port = value-lt b (at + 17) 2 o r.port;
      number = value-lt b (at + 19) 8 o r.number;
      lease = value-lt b (at + 27) 4 o r.lease;
      stamp = value-lt b (at + 31) 4 o r.stamp;
      qtype = value-lt b (at + 35) 2 o r.qtype;
      qclass = value-lt b (at + 37) 2 o r.qclass;
      size = let h = byte-lt b (at + 39) o r.size in omega arith;
      bytes = all-bytes e.name (λ i h. byte-lt b (at + 40 + i) o (r.name i h));
    }

module _ (b : List ℕ) (t : Table) (r : RecordsAt (model_places t.layout) b t) where
  laid-bytes : Bytes b
  laid-bytes = all-bytes b r.octets

  laid-fits : Fits t
  laid-fits =
      record {
        place = value-lt b 1 (place_bytes t.layout) laid-bytes r.clock.place;
        running = value-lt b (running_at t.layout) 4 laid-bytes r.clock.running;
        lines = λ i h. line-fits b (line_at t.layout i) (line_in t.roster i) laid-bytes (r.listed i h);
        slots = λ j h. slot-fits b (slot_at t.layout j) (get_or t.slots j free) laid-bytes (r.slots j h);
      }

-- TWO LISTS laid out as one table are the same, record by record
module _ (b c : List ℕ) where
  -- their k bytes from a place
  Alike : ℕ → ℕ → Type 0
  Alike at k = (i : ℕ) → i < k → get_or b (at + i) 0 ≡ get_or c (at + i) 0

  join : (at j k : ℕ) → Alike at j → Alike (at + j) k → Alike at (j + k)
  unfolding Alike
  join at j k x y i h =
      ⊎_elim
      (λ (t : ltb i j ≡ true). x i (ltb-true i j t))
      (λ (t : ltb i j ≡ false).
      let l : j ≤ i = ltb-false i j t in
      let e : at + j + (i - j) ≡ at + i = omega arith in
      rw e at (y (i - j) (omega arith)))
      (test (ltb i j))

  -- from the start
  join_first : (j k : ℕ) → Alike 0 j → Alike j k → Alike 0 (j + k)
  join_first j k x y = let e : 0 + j ≡ j = omega arith in join 0 j k x (rw e y)

  one : (at : ℕ) {x : ℕ} → get_or b at 0 ≡ x → get_or c at 0 ≡ x → Alike at 1
  unfolding Alike
  one at p q i h = let z : at + i ≡ at = omega arith in rw z (p ∙ sym q)

  rows : (at w n : ℕ) → ((i : ℕ) → i < n → Alike (at + w * i) w) → Alike at (w * n)
  unfolding Alike
  rows at w zero h = λ i l. absurd (omega arith)
  rows at w (suc n) h = let e : w * n + w ≡ w * suc n = omega arith in rw e at (join at (w * n) w (rows at w n (λ i l. h i (omega arith))) (h n (omega arith)))

  module _ (size : length b ≡ length c) (ob : Bytes b) (oc : Bytes c) where
    number : (at k : ℕ) {x : ℕ} → at + k ≤ length b → value_at b at k ≡ x → value_at c at k ≡ x → Alike at k
    unfolding Alike
    number at k h p q i l =
        let e : big_endian b at k ≡ big_endian c at k = value-is b at k ∙ p ∙ sym (value-is c at k ∙ q) in
        let s : part at k b ≡ part at k c = sym (bytes-big b at k ob h) ∙ ap (bytes_of k) e ∙ bytes-big c at k oc (omega arith) in
        sym (get_or-part at k b i l) ∙ ap (λ (z : List ℕ). get_or z i 0) s ∙ get_or-part at k c i l

    same-zeros : (at first body : ℕ) → ZeroRecord b at first body → ZeroRecord c at first body → Alike at (1 + body)
    unfolding Alike
    same-zeros at first body x y = join at 1 body (one at x.kind y.kind) (λ i h. x.zeros i h ∙ sym (y.zeros i h))

    same_line : (at : ℕ) (l : Line) → at + 19 ≤ length b → LineRecord b at l → LineRecord c at l → Alike at 19
    same_line at l h x y =
        join at 18 1
        (join at 17 1 (join at 1 16 (one at x.kind y.kind) (number (at + 1) 16 (omega arith) x.address y.address))
        (one (at + 17) x.share y.share))
        (one (at + 18) x.limit y.limit)

    same_name : (at : ℕ) (e : Entry) → EntryRecord b at e → EntryRecord c at e → Alike (at + 40) 280
    unfolding Alike
    same_name at e x y i h =
        ⊎_elim
        (λ (t : ltb i (length e.name) ≡ true).
        let l = ltb-true i (length e.name) t in
        x.name i l ∙ sym (y.name i l))
        (λ (t : ltb i (length e.name) ≡ false).
        let l = ltb-false i (length e.name) t in
        x.zeros i l h ∙ sym (y.zeros i l h))
        (test (ltb i (length e.name)))

    same-slot : (at : ℕ) (s : Slot) → at + 320 ≤ length b → SlotRecord b at s → SlotRecord c at s → Alike at 320
    same-slot at free h x y = same-zeros at 4 319 x y
    same-slot at (held e) h x y =
        join at 40 280
        (join at 39 1
        (join at 37 2
        (join at 35 2
        (join at 31 4
        (join at 27 4
        (join at 19 8
        (join at 17 2
        (join at 1 16 (one at x.kind y.kind) (number (at + 1) 16 (omega arith) x.address y.address))
        (number (at + 17) 2 (omega arith) x.port y.port))
        (number (at + 19) 8 (omega arith) x.number y.number))
        (number (at + 27) 4 (omega arith) x.lease y.lease))
        (number (at + 31) 4 (omega arith) x.stamp y.stamp))
        (number (at + 35) 2 (omega arith) x.qtype y.qtype))
        (number (at + 37) 2 (omega arith) x.qclass y.qclass))
        (one (at + 39) x.size y.size))
        (same_name at e x y)

module _ (b c : List ℕ) (t : Table) (few : length t.roster ≤ 16) (x : RecordsAt (model_places t.layout) b t) (y : RecordsAt (model_places t.layout) c t) where
  sizes : length b ≡ length c
  sizes = x.size ∙ sym y.size

  same_lines : (i : ℕ) → i < 16 → Alike b c (line_at t.layout i) 19
  same_lines i h =
      let ob = laid-bytes b t x in
      let oc = laid-bytes c t y in
      ⊎_elim
      (λ (z : ltb i (length t.roster) ≡ true).
      let l = ltb-true i (length t.roster) z in
      same_line b c sizes ob oc (line_at t.layout i) (line_in t.roster i) (omega (arith, x.size)) (x.listed i l) (y.listed i l))
      (λ (z : ltb i (length t.roster) ≡ false).
      let l = ltb-false i (length t.roster) z in
      same-zeros b c sizes ob oc (line_at t.layout i) 2 18 (x.unused i l h) (y.unused i l h))
      (test (ltb i (length t.roster)))

  laid-once : b ≡ c
  unfolding Alike
  laid-once =
      let n = length t.slots in
      let ob = laid-bytes b t x in
      let oc = laid-bytes c t y in
      let l = t.layout in
      let clock : Alike b c 0 (lines_at l) =
      join_first b c (running_at l) 4
      (join_first b c 1 (place_bytes l) (one b c 0 x.clock.kind y.clock.kind)
      (number b c sizes ob oc 1 (place_bytes l) (omega (arith, x.size)) x.clock.place y.clock.place))
      (number b c sizes ob oc (running_at l) 4 (omega (arith, x.size)) x.clock.running y.clock.running) in
      let slots : Alike b c (base l) (320 * n) =
      rows b c (base l) 320 n (λ j h. same-slot b c sizes ob oc (slot_at t.layout j) (get_or t.slots j free) (omega (arith, x.size)) (x.slots j h) (y.slots j h)) in
      let all : Alike b c 0 (size_of l n) = join_first b c (base l) (320 * n) (join_first b c (lines_at l) 304 clock (rows b c (lines_at l) 19 16 same_lines)) slots in
      ext_get_or 0 b c sizes (λ i l. let e : 0 + i ≡ i = omega arith in rw e at (all i (omega (arith, x.size))))

-- THE CLAIM

-- at the model's places
at-model : (b : List ℕ) (t : Table) → TableRecords b t → RecordsAt (model_places t.layout) b t
at-model b t r = subst (λ (p : Places). RecordsAt p b t) (sym (places-are t.layout.weeks)) r

written-laid : (b : List ℕ) (t : Table) → length t.roster ≤ 16 → Fits t → table_bytes t ≡ b → TableRecords b t
written-laid b t few f e = rw (e, places-are t.layout.weeks) at (table-laid t few f)

laid-written : (b : List ℕ) (t : Table) → length t.roster ≤ 16 → TableRecords b t → table_bytes t ≡ b
laid-written b t few r = let m = at-model b t r in laid-once (table_bytes t) b t few (table-laid t few (laid-fits b t m)) m

pub table-layout : TableLayout
table-layout =
    record {
      written = λ b t few. (λ r. (laid-fits b t (at-model b t r), laid-written b t few r), λ f. written-laid b t few f.0 f.1);
      read = λ b t few r. rw (laid-written b t few r) at (table-back t few (laid-fits b t (at-model b t r)));
      sound = λ b. (
        λ s.
            record {
              table = s.table;
              rules = (sound-exactly s.table).0 s.sound;
              laid = written-laid b s.table s.sound.lines s.fits s.bytes;
            },
        λ s.
            record {
              table = s.table;
              sound = (sound-exactly s.table).1 s.rules;
              fits = laid-fits b s.table (at-model b s.table s.laid);
              bytes = laid-written b s.table s.rules.lines_max s.laid;
            },
      );
    }
