-- Laws for one option served: one for each way out of setup, response and refresh. Assumes nothing.
use Prim.Native.Nat.{ℕ, suc, ◌+◌, ◌*◌, ◌^◌, ◌≤◌, ◌<◌}
use native.Mathlib.Nat.{lt_of_lt_of_le, mul-le-mul_right}
use native.Mathlib.Omega.{arith}
use mathlib.Core.Path.{◌≡◌, refl, sym, ap, ◌∙◌, subst}
use mathlib.Core.Bool.{Bool, true, false, cond, true≢false}
use mathlib.Core.Logic.{◌⊎◌, inl, inr, ◌≢◌}
use borrow.Author.Tests.{eq-eqb, ne_eqb}
use mathlib.Core.List.{List, [], ◌∷◌}
use lib.ListN.{length, get_or, drop, set}
use Rattle.std.proofs.Common.{Option, Some, None, ltb, ltb-true, ltb-false}
use lib.Seq.{set_out}
use Rattle.model.specs.Lists.{count, index_of}
use Rattle.model.specs.Numbers.{Bytes, big_endian, bytes_of, splice, encode}
use Rattle.model.specs.Clock.{age_at}
use Rattle.model.specs.Query as query
use Rattle.model.specs.Table as table
use Rattle.model.specs.Table.{free, held, Layout, Table, running_at, lines_at, base, slot_at, layout_of, slots_in, size_of, read_table, read_slot, read_entry, slot_bytes, listed}
use Rattle.model.specs.Rules.{asks, Holding, holdings, full, granted_lease, fresh_number}
use Rattle.model.specs.Sound.{FitsEntry}
use Rattle.model.specs.Serve as serve
use Rattle.model.specs.Serve.{has, is_free, find_entry, slot_of, with_slot, life_left, new_entry, granted, on_setup, serve_setup, answers, establish, on_response, serve_response, refreshes, renew, on_refresh, serve_refresh, ended, serve_kind, serve_option, kind_of_option}
use Rattle.model.proofs.NumberLaws.{big_lt, bytes_drop}
use Rattle.model.proofs.ListLaws.{index-hit, get_or-past, get_or-up_to, length-up_to}
use Rattle.model.proofs.Meaning.{fits-entry, slots-count}
use Rattle.model.proofs.StepLaws.{fits-establish, fits-renew}
use Rattle.layout.specs.Shape.{in_use, slots_to, lines_to}
use Rattle.layout.proofs.PartLaws.{roster-read, slots_read, holdings-read, find-read}
use Rattle.layout.proofs.AgeLaws.{index-ageless, held-full, held-fresh}
use Rattle.layout.proofs.ReadLaws.{running-read, slot_read, read_held}
use Rattle.layout.specs.Places.{LayoutFor}
use Rattle.layout.specs.declared.Layout.{Layout as LayoutOf}
use Rattle.record.specs.declared.Address.{Address}
use Rattle.record.specs.declared.State.TheVariants.{Pending}
use Rattle.record.specs.Address.{address_of}
use Rattle.holdings.specs.declared.Slots.{Slots}
use Rattle.holdings.specs.Slots.{held_in}
use Rattle.entries.specs.declared.Entry.{Entry}
use Rattle.entries.specs.declared.Sender.{Sender}
use Rattle.entries.specs.declared.Found.{Found}
use Rattle.entries.specs.Reads.{sender_of, entry_at, found_in, first_in}
use Rattle.entries.proofs.Laws.{has-out, found-is, nothing_is}
use Rattle.wire.specs.declared.LlqNumber.{LlqNumber}
use Rattle.wire.specs.declared.LlqOption.{LlqOption}
use Rattle.wire.specs.Records.{option_of}
use Rattle.table.specs.Written.{WellFormed, Written}
use Rattle.table.specs.Stored.{entry_bytes, stored_as}
use Rattle.table.proofs.WriteLaws.{formed-n, unwritten, slot-written, establish-bytes, renew-bytes}
use Rattle.table.proofs.EntryLaws.{pending-bytes}
use Rattle.options.specs.declared.Outcome.TheVariants as out
use Rattle.options.specs.declared.ServedOption.{ServedOption}
use Rattle.options.specs.Outcomes.{served_outcome, served_with, ServedAs}

-- an address fits its field
pub address-fits : (a : Address) → a.high < 2 ^ 64 → a.low < 2 ^ 64 → address_of a < 256 ^ 16
address-fits a h l =
    let e : a.high * 2 ^ 64 + a.low < suc a.high * 2 ^ 64 = omega arith in
    lt_of_lt_of_le e (mul-le-mul_right (2 ^ 64) h)

-- the same by equal steps
pub served-by : {p q : serve.Served} {b : List ℕ} {x : ServedOption} → p ≡ q → ServedAs q b x → ServedAs p b x
served-by {b = b} {x = x} e = subst (λ (z : serve.Served). ServedAs z b x) (sym e)

-- an index below n, told by what a search gave
within : (n i j : ℕ) → cond {A = Option ℕ} (ltb i n) (Some i) None ≡ Some j → (j ≡ i) × (j < n)
within n i j = go (ltb i n) refl
  where
    go : (v : Bool) → ltb i n ≡ v → cond {A = Option ℕ} v (Some i) None ≡ Some j → (j ≡ i) × (j < n)
    go true h g = let e : j ≡ i = cc in (e, rw e (ltb-true i n h))
    go false h g = cc

not_within : (n i : ℕ) → cond {A = Option ℕ} (ltb i n) (Some i) None ≡ None → n ≤ i
not_within n i = go (ltb i n) refl
  where
    go : (v : Bool) → ltb i n ≡ v → cond {A = Option ℕ} v (Some i) None ≡ None → n ≤ i
    go true h g = cc
    go false h g = ltb-false i n h

-- the bytes are those of a table of n slots
pub record Formed (b : List ℕ) (n : ℕ) : Type 0 where
  pub bytes : Bytes b
  pub formed : WellFormed b
  pub size : length b ≡ size_of (layout_of (length b)) n

pub formed-of : {b : List ℕ} (l : LayoutOf) → Bytes b → WellFormed b → LayoutFor l (length b) → Formed b l.n
formed-of l bytes formed laid = record { bytes = bytes; formed = formed; size = formed-n _ bytes formed _ laid.3 }

module _ {b : List ℕ} {n : ℕ} (on : Formed b n) where
  bytes : Bytes b
  bytes = on.bytes

  formed : WellFormed b
  formed = on.formed

  size : length b ≡ size_of (layout_of (length b)) n
  size = on.size

  abbrev lay : Layout
  lay = layout_of (length b)

  inside : {i : ℕ} → i < n → i < slots_in (length b)
  inside h = let e = size in omega arith

  -- its slots' part
  abbrev slots : List ℕ
  slots = drop (base lay) b

  bytes-slots : Bytes slots
  bytes-slots = bytes_drop (base lay) b bytes

  -- WHAT WAS FOUND, where the slots are looked at

  abbrev pub SlotsOf : Slots → Type 0
  SlotsOf ss = (ss.bytes.now ≡ slots) × (ss.n ≡ n)

  -- the first slot that passes, and its entry
  pub record First (q : table.Slot → Bool) (f : Found) : Type 0 where
    pub first : f.slot ≡ index_of q (slots_to slots n)
    pub within : f.slot < n
    pub read : f.entry ≡ entry_at slots (320 * f.slot)

  module _ (ss : Slots) (at : SlotsOf ss) (q : table.Slot → Bool) where
    pub found_first : {r : Option Found} {f : Found} → r ≡ found_in ss q → r ≡ Some f → First q f
    found_first {r} {f} e h =
        let w = found-is ss.bytes.now ss.n (index_of q (slots_to ss.bytes.now ss.n)) f (sym e ∙ h) in
        let w' : (f.slot ≡ index_of q (slots_to slots n)) × (f.slot < n) × (f.entry ≡ entry_at slots (320 * f.slot)) = rw (← at.0, ← at.1) w in
        record { first = w'.0; within = w'.1; read = w'.2 }

    pub found_none : {r : Option Found} → r ≡ found_in ss q → r ≡ None → n ≤ index_of q (slots_to slots n)
    found_none e h = rw (← at.0, ← at.1) (nothing_is ss.bytes.now ss.n (index_of q (slots_to ss.bytes.now ss.n)) (sym e ∙ h))

  module _ (p : Holding → Bool) {i : ℕ} (e : i ≡ index_of (has (big_endian b (running_at lay) 4) p) (slots_to slots n)) where
    at_slot : (j : ℕ) → j < n → slot_of (read_table b) j ≡ read_slot slots (320 * j)
    at_slot j l = slot_read b j free (inside l)

    found-index : i ≡ find_entry p (read_table b)
    found-index = e ∙ sym (find-read b n size p)

    used : (v : Bool) → in_use (get_or slots (320 * i) 0) ≡ v → has (big_endian b (running_at lay) 4) p (read_slot slots (320 * i)) ≡ true → in_use (get_or slots (320 * i) 0) ≡ true
    used true h t = h
    used false h t = absurd (true≢false (sym t ∙ has-out (big_endian b (running_at lay) 4) p slots (320 * i) h))

    pub found-held : i < n → read_slot slots (320 * i) ≡ held (read_entry slots (320 * i))
    found-held l =
        let q = has (big_endian b (running_at lay) 4) p in
        let f : ℕ → table.Slot = λ j. read_slot slots (320 * j) in
        let k : index_of q (slots_to slots n) < length (slots_to slots n) = rw (length-up_to n f, ← e) l in
        let t : q (get_or (slots_to slots n) i free) ≡ true = rw (← e) at (index-hit q (slots_to slots n) free k) in
        read_held slots (320 * i) (used (in_use (get_or slots (320 * i) 0)) refl (ap q (sym (get_or-up_to n f i free l)) ∙ t))

    pub found-slot : i < n → slot_of (read_table b) (find_entry p (read_table b)) ≡ held (read_entry slots (320 * i))
    found-slot l = ap (slot_of (read_table b)) (sym found-index) ∙ at_slot i l ∙ found-held l

    pub lost-slot : n ≤ i → slot_of (read_table b) (find_entry p (read_table b)) ≡ free
    lost-slot l = ap (slot_of (read_table b)) (sym found-index) ∙ get_or-past (read_table b).slots i free (rw (slots-count b lay n size) l)

  -- full, as the code has counted
  pub full-told : (ss : Slots) → SlotsOf ss → {lines : List ℕ} → lines ≡ drop (lines_at lay) b → (a : ℕ) {v : Bool} → v ≡ full ss.n (lines_to lines (listed lines 16)) (held_in ss) a
      → v ≡ full (length (read_table b).slots) (read_table b).roster (count (holdings (read_table b))) a
  full-told ss at ls a e =
      rw (ls, at.0, at.1) at e
      ∙ sym (rw (slots-count b lay n size, roster-read b, holdings-read b n size)
      (held-full (big_endian b (running_at lay) 4) slots n n (lines_to (drop (lines_at lay) b) (listed (drop (lines_at lay) b) 16)) a))

  module _ (s : Sender) (what : query.Question) (o : LlqOption) where
    abbrev who : serve.Sender
    who = sender_of s

    -- a holding is of the sender and asks the question
    abbrev own : Holding → Bool
    own = asks who.address s.port what

    -- GRANTED, with a number and a lease, where the slots are looked at

    module _ (r : ℕ) where
      abbrev new : table.Entry
      new = new_entry who r what (option_of o) (read_table b)

      abbrev grants : serve.Served
      grants = granted who r what (option_of o) (read_table b)

      module _ (ss : Slots) (at : SlotsOf ss) {number : LlqNumber} {lease : ℕ} (ns : number.0 ≡ fresh_number (ss.n + 2) (held_in ss) r) (ls : lease ≡ granted_lease o.lease) where
        number_is : number.0 ≡ new.number
        number_is =
            rw (at.0, at.1) at ns ∙ sym (held-fresh (big_endian b (running_at lay) 4) slots n (n + 2) r)
            ∙ ap (λ (hs : List Holding). fresh_number (n + 2) (count hs) r) (sym (holdings-read b n size))
            ∙ ap (λ (k : ℕ). fresh_number (k + 2) (count (holdings (read_table b))) r) (sym (slots-count b lay n size))

        free_is : index_of is_free (slots_to ss.bytes.now ss.n) ≡ index_of is_free (read_table b).slots
        free_is = rw (at.0, at.1) (ap (index_of is_free) (sym (slots_read b n size)))

        told : {x : ServedOption} → x ≡ served_with o (out.Challenge number lease) → served_outcome x ≡ grants.outcome
        told e = ap served_outcome e ∙ rw (number_is, ls)

        pub grant-none : {j : Option ℕ} → j ≡ first_in ss is_free → j ≡ None → {x : ServedOption} → x ≡ served_with o (out.Challenge number lease) → ServedAs grants b x
        grant-none f h e =
            let l : ss.n ≤ index_of is_free (slots_to ss.bytes.now ss.n) = not_within ss.n _ (sym f ∙ h) in
            let k : n ≤ index_of is_free (read_table b).slots = rw (← free_is, ← at.1) l in
            let stays : set (read_table b).slots (index_of is_free (read_table b).slots) (held new) ≡ (read_table b).slots =
            set_out (read_table b).slots (index_of is_free (read_table b).slots) (held new) (rw (slots-count b lay n size) k) in
            record {
              table = subst (Written b) (sym (ap (serve.with_slots (read_table b)) stays)) (unwritten b formed);
              outcome = told e;
            }

        module _ {j : Option ℕ} {i : ℕ} (f : j ≡ first_in ss is_free) (h : j ≡ Some i) where
          pub grant-within : i < n
          grant-within = rw (← at.1) (within ss.n _ i (sym f ∙ h)).1

          slot_is : i ≡ index_of is_free (read_table b).slots
          slot_is = (within ss.n _ i (sym f ∙ h)).0 ∙ free_is

          module _ {stamp : ℕ} (len : ℕ) (st : stamp ≡ big_endian b (running_at lay) 4) where
            abbrev made : Entry
            made =
                record {
                  state = Pending;
                  sender = s;
                  number = number;
                  lease = lease;
                  stamp = stamp;
                  qtype = what.qtype;
                  qclass = what.qclass;
                  len = len;
                }

            new_is : stored_as false made what.name ≡ new
            new_is = rw (number_is, ls, st ∙ sym (running-read b))

            pub grant-written : FitsEntry (stored_as false made what.name) → {y : List ℕ} → y ≡ splice (slot_at lay i) 320 (entry_bytes made what.name) b
                → {x : ServedOption} → x ≡ served_with o (out.Challenge number lease) → ServedAs grants y x
            grant-written fits {y} w e =
                let v : y ≡ splice (slot_at lay i) 320 (slot_bytes (held new)) b =
                w ∙ ap (λ (z : List ℕ). splice (slot_at lay i) 320 z b) (pending-bytes made what.name refl ∙ ap (λ (z : table.Entry). slot_bytes (held z)) new_is) in
                record {
                  table =
                      subst (λ (k : ℕ). Written y (with_slot (read_table b) k (held new))) slot_is
                      (slot-written b bytes formed i (held new) (inside grant-within) (subst FitsEntry new_is fits) y v);
                  outcome = told e;
                }

    -- SETUP

    module _ (r : ℕ) where
      asked-at : index_of (has 0 own) (slots_to slots n) ≡ index_of (has (big_endian b (running_at lay) 4) own) (slots_to slots n)
      asked-at = sym (index-ageless (big_endian b (running_at lay) 4) own (λ e. refl) (slots_to slots n))

      pub setup-found : {f : Found} → First (has 0 own) f → {running : ℕ} → running ≡ big_endian b (running_at lay) 4 → {left : ℕ}
          → left ≡ life_left f.entry.lease (age_at running f.entry.stamp) → {x : ServedOption} → x ≡ served_with o (out.Challenge f.entry.number left)
          → ServedAs (serve_setup who r what (option_of o) (read_table b)) b x
      unfolding serve_setup on_setup entry_at read_entry
      setup-found w rs k g =
          served-by (ap (on_setup who r what (option_of o) (read_table b)) (found-slot own (w.first ∙ asked-at) w.within))
          (record { table = unwritten b formed; outcome = ap served_outcome g ∙ rw (k, rs, w.read, running-read b) })

      -- full, of the table
      abbrev full_now : Bool
      full_now = full (length (read_table b).slots) (read_table b).roster (count (holdings (read_table b))) who.address

      module _ (l : n ≤ index_of (has 0 own) (slots_to slots n)) where
        lost : serve_setup who r what (option_of o) (read_table b)
            ≡ cond full_now (record { table = read_table b; outcome = serve.retry_later (option_of o) }) (grants r)
        unfolding serve_setup on_setup
        lost = ap (on_setup who r what (option_of o) (read_table b)) (lost-slot own asked-at l)

        pub setup-full : full_now ≡ true → {x : ServedOption} → x ≡ served_with o out.Full → ServedAs (serve_setup who r what (option_of o) (read_table b)) b x
        setup-full f g = served-by (lost ∙ rw f) (record { table = unwritten b formed; outcome = ap served_outcome g })

        pub setup-grant : full_now ≡ false → {y : List ℕ} {x : ServedOption} → ServedAs (grants r) y x → ServedAs (serve_setup who r what (option_of o) (read_table b)) y x
        setup-grant f g = served-by (lost ∙ rw f) g

    -- RESPONSE

    module _ {running : ℕ} (rs : running ≡ big_endian b (running_at lay) 4) where
      abbrev given : Holding → Bool
      given = answers who what (option_of o)

      answered-at : index_of (has running given) (slots_to slots n) ≡ index_of (has (big_endian b (running_at lay) 4) given) (slots_to slots n)
      answered-at = rw rs

      pub response-none : n ≤ index_of (has running given) (slots_to slots n) → {x : ServedOption} → x ≡ served_with o (out.NoSuchLlq (record { 0 = 0 }))
          → ServedAs (serve_response who what (option_of o) (read_table b)) b x
      unfolding serve_response on_response
      response-none l g =
          served-by (ap (on_response (option_of o) (read_table b) (find_entry given (read_table b))) (lost-slot given answered-at l))
          (record { table = unwritten b formed; outcome = ap served_outcome g })

      pub response-found : {f : Found} → First (has running given) f → {left : ℕ} → left ≡ life_left f.entry.lease (age_at running f.entry.stamp) → {y : List ℕ}
          → y ≡ splice (slot_at lay f.slot) 1 (bytes_of 1 6) b → {x : ServedOption} → x ≡ served_with o (out.Established f.entry.number left)
          → ServedAs (serve_response who what (option_of o) (read_table b)) y x
      unfolding serve_response on_response entry_at read_entry
      response-found {f} w k {y} z g =
          let here = w.first ∙ answered-at in
          let d = read_entry slots (320 * f.slot) in
          let v = z ∙ establish-bytes b bytes formed f.slot (inside w.within) d (found-held given here w.within) in
          let fits : FitsEntry (establish d) = fits-establish d (fits-entry slots bytes-slots (320 * f.slot)) in
          served-by (ap (on_response (option_of o) (read_table b) (find_entry given (read_table b))) (found-slot given here w.within))
          (record {
            table = subst (λ (j : ℕ). Written y (with_slot (read_table b) j (held (establish d)))) (found-index given here)
                (slot-written b bytes formed f.slot (held (establish d)) (inside w.within) fits y v);
            outcome = ap served_outcome g ∙ rw (k, rs, w.read, running-read b);
          })

    -- REFRESH

    abbrev wanted : Holding → Bool
    wanted = refreshes who what (option_of o)

    wanted-at : index_of (has 0 wanted) (slots_to slots n) ≡ index_of (has (big_endian b (running_at lay) 4) wanted) (slots_to slots n)
    wanted-at = sym (index-ageless (big_endian b (running_at lay) 4) wanted (λ e. refl) (slots_to slots n))

    pub refresh-none : n ≤ index_of (has 0 wanted) (slots_to slots n) → {x : ServedOption} → x ≡ served_with o (out.NoSuchLlq o.number)
        → ServedAs (serve_refresh who what (option_of o) (read_table b)) b x
    unfolding serve_refresh on_refresh
    refresh-none l g =
        served-by (ap (on_refresh (option_of o) (read_table b) (find_entry wanted (read_table b))) (lost-slot wanted wanted-at l))
        (record { table = unwritten b formed; outcome = ap served_outcome g })

    module _ {f : Found} (w : First (has 0 wanted) f) where
      abbrev d : table.Entry
      d = read_entry slots (320 * f.slot)

      here : f.slot ≡ index_of (has (big_endian b (running_at lay) 4) wanted) (slots_to slots n)
      here = w.first ∙ wanted-at

      refreshed : serve_refresh who what (option_of o) (read_table b) ≡ on_refresh (option_of o) (read_table b) (find_entry wanted (read_table b)) (held d)
      unfolding serve_refresh
      refreshed = ap (on_refresh (option_of o) (read_table b) (find_entry wanted (read_table b))) (found-slot wanted here w.within)

      on-end : o.lease ≡ 0 → (j : ℕ) → on_refresh (option_of o) (read_table b) j (held d)
          ≡ record { table = with_slot (read_table b) j ended; outcome = record { opcode = o.opcode; error = 0; number = d.number; lease = 0 } }
      unfolding on_refresh
      on-end z j = rw (eq-eqb o.lease 0 z)

      on-renew : o.lease ≢ 0 → (j : ℕ) → on_refresh (option_of o) (read_table b) j (held d)
          ≡ record {
            table = with_slot (read_table b) j (held (renew (read_table b).clock.running o.lease d));
            outcome = record { opcode = o.opcode; error = 0; number = d.number; lease = granted_lease o.lease };
          }
      unfolding on_refresh
      on-renew z j = rw (ne_eqb o.lease 0 z)

      pub refresh-end : o.lease ≡ 0 → {y : List ℕ} → y ≡ splice (slot_at lay f.slot) 320 (slot_bytes ended) b → {x : ServedOption}
          → x ≡ served_with o (out.Ended f.entry.number) → ServedAs (serve_refresh who what (option_of o) (read_table b)) y x
      unfolding entry_at read_entry
      refresh-end z {y} v g =
          served-by (refreshed ∙ on-end z _)
          (record {
            table = subst (λ (j : ℕ). Written y (with_slot (read_table b) j ended)) (found-index wanted here) (slot-written b bytes formed f.slot ended (inside w.within) tt y v);
            outcome = ap served_outcome g ∙ rw (w.read);
          })

      pub refresh-renew : o.lease ≢ 0 → {lease running : ℕ} → lease ≡ granted_lease o.lease → running ≡ big_endian b (running_at lay) 4 → {y : List ℕ}
          → y ≡ splice (base lay + (320 * f.slot + 27)) 8 (encode ((4, lease) ∷ (4, running) ∷ [])) b → {x : ServedOption}
          → x ≡ served_with o (out.Renewed f.entry.number lease) → ServedAs (serve_refresh who what (option_of o) (read_table b)) y x
      unfolding entry_at read_entry
      refresh-renew z {lease} {running} k r {y} u g =
          let rr : running ≡ (read_table b).clock.running = r ∙ sym (running-read b) in
          let c = renew running o.lease d in
          let at : base lay + (320 * f.slot + 27) ≡ slot_at lay f.slot + 27 = omega arith in
          let v = u ∙ ap (λ (k : ℕ). splice k 8 (encode ((4, lease) ∷ (4, running) ∷ [])) b) at ∙ renew-bytes b bytes formed f.slot (inside w.within) d (found-held wanted here w.within) running o.lease lease k in
          let fits : FitsEntry c = fits-renew running o.lease d (rw r (big_lt b (running_at lay) 4 bytes)) (fits-entry slots bytes-slots (320 * f.slot)) in
          let w' : Written y (with_slot (read_table b) f.slot (held (renew (read_table b).clock.running o.lease d))) =
          subst (λ (j : ℕ). Written y (with_slot (read_table b) f.slot (held (renew j o.lease d)))) rr (slot-written b bytes formed f.slot (held c) (inside w.within) fits y v) in
          served-by (refreshed ∙ on-renew z _)
          (record {
            table = subst (λ (j : ℕ). Written y (with_slot (read_table b) j (held (renew (read_table b).clock.running o.lease d)))) (found-index wanted here) w';
            outcome = ap served_outcome g ∙ rw (w.read, k);
          })

-- ONE OPTION, BY ITS KIND

module _ (s : serve.Sender) (r : ℕ) (q : query.Question) (o : LlqOption) (t : Table) (k : serve.Kind) (e : k ≡ kind_of_option (option_of o)) where
  pub by_kind : serve_option s r q (option_of o) t ≡ serve_kind k s r q (option_of o) t
  by_kind = ap (λ (z : serve.Kind). serve_kind z s r q (option_of o) t) (sym e)

pub malformed-as : (s : serve.Sender) (r : ℕ) (q : query.Question) (o : LlqOption) (b : List ℕ) → WellFormed b → (x : ServedOption)
    → ((serve.bad_version ≡ kind_of_option (option_of o)) × (x ≡ served_with o out.BadVersion)) ⊎ ((serve.bad_format ≡ kind_of_option (option_of o)) × (x ≡ served_with o out.BadFormat))
    → ServedAs (serve_option s r q (option_of o) (read_table b)) b x
unfolding serve_kind
malformed-as s r q o b formed x (inl h) =
    served-by (by_kind s r q o (read_table b) serve.bad_version h.0) (record { table = unwritten b formed; outcome = ap served_outcome h.1 })
malformed-as s r q o b formed x (inr h) =
    served-by (by_kind s r q o (read_table b) serve.bad_format h.0) (record { table = unwritten b formed; outcome = ap served_outcome h.1 })

pub setup-as : (s : serve.Sender) (r : ℕ) (q : query.Question) (o : LlqOption) (b y : List ℕ) (x : ServedOption) → serve.setup ≡ kind_of_option (option_of o)
    → ServedAs (serve_setup s r q (option_of o) (read_table b)) y x → ServedAs (serve_option s r q (option_of o) (read_table b)) y x
unfolding serve_kind
setup-as s r q o b y x e = served-by (by_kind s r q o (read_table b) serve.setup e)

pub response-as : (s : serve.Sender) (r : ℕ) (q : query.Question) (o : LlqOption) (b y : List ℕ) (x : ServedOption) → serve.response ≡ kind_of_option (option_of o)
    → ServedAs (serve_response s q (option_of o) (read_table b)) y x → ServedAs (serve_option s r q (option_of o) (read_table b)) y x
unfolding serve_kind
response-as s r q o b y x e = served-by (by_kind s r q o (read_table b) serve.response e)

pub refresh-as : (s : serve.Sender) (r : ℕ) (q : query.Question) (o : LlqOption) (b y : List ℕ) (x : ServedOption) → serve.refresh ≡ kind_of_option (option_of o)
    → ServedAs (serve_refresh s q (option_of o) (read_table b)) y x → ServedAs (serve_option s r q (option_of o) (read_table b)) y x
unfolding serve_kind
refresh-as s r q o b y x e = served-by (by_kind s r q o (read_table b) serve.refresh e)
