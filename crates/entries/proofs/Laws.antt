-- Laws for loops over a table's slots: what is found, what is in use, what is full. Assumes nothing.
use Rattle.std.proofs.Common.{◌≡◌, ℕ, zero, suc, ◌+◌, ◌-◌, ◌*◌, ◌%◌, ◌^◌, ◌<◌, ◌≤◌, Bool, true, false, cond, not, ◌&&◌, ◌||◌, eqb, ltb, leb, List, Option, Some, None, MatchOption, get_or, add-one, zero-add, length, sym, refl, ap, ◌∙◌, arith, ltb-false, ltb-true, le-ltb, lt-ltb, le-leb}
use borrow.Author.Tests.{lt-leb}
use Rattle.std.specs.Bool.{MatchBool}
use Rattle.std.specs.List.{AllWithin, HoldsAt, range_with_len}
use Rattle.std.proofs.lemmas.List.FromFn.{length-range_with_len, get_or-range_with_len}
use Rattle.model.specs.Lists.{count, any, index_of}
use Rattle.model.specs.Numbers.{big_endian}
use Rattle.model.specs.Clock.{age_at}
use Rattle.model.specs.Table.{Slot, free, held as taken, read_entry, read_slot, listed}
use Rattle.model.specs.Rules.{Holding, holding, held_by, numbered, Counts, share_of, limit_of, reserve, full, fresh_number}
use Rattle.model.specs.Serve.{is_free, in_span, right_lease, has}
use Rattle.model.proofs.ListLaws.{not-both, and_left, count_at, every-nil, every-next, every-not, index-up_to, index-up_to-none, length-up_to, get_or-up_to, up_to-none}
use Rattle.model.proofs.HoldingLaws.{count_entries}
use Rattle.layout.proofs.ReadLaws.{read_held, read-free}
use Rattle.layout.specs.Shape.{in_use, slots_to, lines_to}
use Rattle.layout.specs.Held.{holding_at, held_to}
use Rattle.record.specs.declared.State.{State}
use Rattle.record.specs.State.{state_of, is_established}
use Rattle.record.proofs.StateLaws.{established-is}
use Rattle.roster.specs.declared.Lines.{Lines}
use Rattle.roster.specs.Lines.{lines_of}
use Rattle.holdings.specs.declared.Slots.{Slots}
use Rattle.holdings.specs.Slots.{held_in}
use Rattle.entries.specs.declared.Entry.{Entry}
use Rattle.entries.specs.declared.Found.{Found}
use Rattle.entries.specs.Reads.{sent, entry_at, found_at, none_to}

-- ONE SLOT

module _ (r : ℕ) (p : Holding → Bool) (b : List ℕ) (at : ℕ) where
  pub has-is : has r p (read_slot b at) ≡ in_use (get_or b at 0) && p (holding r (read_entry b at))
  unfolding has read_slot
  has-is = go (in_use (get_or b at 0))
    where
      go : (v : Bool) → has r p (cond v (taken (read_entry b at)) free) ≡ v && p (holding r (read_entry b at))
      go true = refl
      go false = refl

  pub has_in : in_use (get_or b at 0) ≡ true → has r p (read_slot b at) ≡ p (holding r (read_entry b at))
  has_in h = has-is ∙ rw h

  pub has-out : in_use (get_or b at 0) ≡ false → has r p (read_slot b at) ≡ false
  has-out h = has-is ∙ rw h

-- the code's test of a slot by its kind and entry
pub has-told : (b : List ℕ) (at : ℕ) (p : Holding → Bool) {v : Bool} → v ≡ in_use (get_or b at 0) && p (holding_at 0 b at) → v ≡ has 0 p (read_slot b at)
unfolding holding_at
has-told b at p e = e ∙ sym (has-is 0 p b at)

-- by a test q of the kind and of the entry, which each entry that passes p passes
module _ (r : ℕ) (p : Holding → Bool) (b : List ℕ) (at : ℕ) (q : Holding → Bool) where
  pub has-likely : in_use (get_or b at 0) && q (holding_at 0 b at) ≡ true → has r p (read_slot b at) ≡ p (holding r (read_entry b at))
  has-likely h = has_in r p b at (and_left (in_use (get_or b at 0)) (q (holding_at 0 b at)) h)

  pub has-unlikely : (q (holding_at 0 b at) ≡ false → p (holding r (read_entry b at)) ≡ false) → in_use (get_or b at 0) && q (holding_at 0 b at) ≡ false
      → has r p (read_slot b at) ≡ false
  has-unlikely f h = not-both (in_use (get_or b at 0)) (q (holding_at 0 b at)) (has-out r p b at) (λ i e. has_in r p b at i ∙ f e) h

-- AN ENTRY that is read
module _ (b : List ℕ) (at : ℕ) where
  -- it is an established entry's, or not
  pub state-established : {k : ℕ} {x : State} → k ≡ get_or b at 0 → x ≡ state_of k → (s : State) → x ≡ s → (read_entry b at).established ≡ is_established s
  unfolding read_entry
  state-established k x s g = sym (established-is (get_or b at 0)) ∙ ap is_established (sym (x ∙ ap state_of k) ∙ g)

  -- its span at its age is the slot's entry's
  pub span-read : (r number sent_lease : ℕ) {lease stamp age : ℕ} {v : Bool} → lease ≡ big_endian b (at + 27) 4 → stamp ≡ big_endian b (at + 31) 4 → age ≡ age_at r stamp
      → v ≡ in_span lease age sent_lease → right_lease (sent number sent_lease) (holding r (read_entry b at)) ≡ v
  unfolding read_entry
  span-read r number sent_lease l s a v = sym (rw (a, s, l) at v)

-- the code's test of a free slot
pub free-is : (b : List ℕ) (i : ℕ) {u v : Bool} → u ≡ in_use (get_or b (320 * i) 0) → v ≡ not u → v ≡ is_free (read_slot b (320 * i))
free-is b i {u} {v} h e = e ∙ ap not h ∙ go (in_use (get_or b (320 * i) 0)) refl
  where
    go : (w : Bool) → in_use (get_or b (320 * i) 0) ≡ w → not (in_use (get_or b (320 * i) 0)) ≡ is_free (read_slot b (320 * i))
    go true g = ap not g ∙ sym (ap is_free (read_held b (320 * i) g))
    go false g = ap not g ∙ sym (ap is_free (read-free b (320 * i) g))

-- n SLOTS, the first that passes a test

-- none of the slots below i, and so none below i + 1
pub none_yet : (b : List ℕ) (q : Slot → Bool) → none_to b q 0
unfolding none_to
none_yet b q = rw (up_to-none (λ j. read_slot b (320 * j))) (every-nil (λ s. not (q s)))

pub none-still : (b : List ℕ) (q : Slot → Bool) (i : ℕ) → q (read_slot b (320 * i)) ≡ false → none_to b q i → none_to b q (i + 1)
unfolding none_to
none-still b q i f e = rw (every-next i (λ j. read_slot b (320 * j)) (λ s. not (q s)), e, f)

-- by what the test of each of them gave
pub none_below : (b : List ℕ) (q : Slot → Bool) (i : ℕ) → ((k : ℕ) → k < i → false ≡ q (read_slot b (320 * k))) → none_to b q i
none_below b q zero h = none_yet b q
none_below b q (suc i) h = rw (← add-one) (none-still b q i (sym (h i (omega arith))) (none_below b q i (λ k l. h k (omega arith))))

module _ (b : List ℕ) (n : ℕ) (q : Slot → Bool) where
  -- the first slot that passes, by what the tests of the slots gave
  abbrev pub IsFirst : ℕ → Type 0
  IsFirst i = (true ≡ q (read_slot b (320 * i))) × ((k : ℕ) → k < i → false ≡ q (read_slot b (320 * k)))

  index-here : (i : ℕ) → i < n → IsFirst i → index_of q (slots_to b n) ≡ i
  unfolding none_to
  index-here i l h = index-up_to q n i (λ j. read_slot b (320 * j)) (none_below b q i h.1) (sym h.0) l

  index-none-here : ((k : ℕ) → k < n → false ≡ q (read_slot b (320 * k))) → index_of q (slots_to b n) ≡ n
  unfolding none_to
  index-none-here h = index-up_to-none q n (λ j. read_slot b (320 * j)) (none_below b q n h)

  -- as the library's `find` over the range says it
  pub within-first : (r : Option ℕ) → MatchOption r ((k : ℕ) → 0 ≤ k → k < n → false ≡ q (read_slot b (320 * k)))
      (λ i. (0 ≤ i) × (i < n) × (true ≡ q (read_slot b (320 * i))) × ((k : ℕ) → 0 ≤ k → k < i → false ≡ q (read_slot b (320 * k))))
      → r ≡ cond (ltb (index_of q (slots_to b n)) n) (Some (index_of q (slots_to b n))) None
  within-first None h = rw (index-none-here (λ k l. h k (omega arith) l), le-ltb n n (omega arith))
  within-first (Some i) h = rw (index-here i h.1 (h.2, λ k l. h.3 k (omega arith) l), lt-ltb i n h.1)

  -- a finder's two ways out
  pub slot-found : (i : ℕ) → i < n → none_to b q i → q (read_slot b (320 * i)) ≡ true → (e : Entry) → e ≡ entry_at b (320 * i)
      → Some (record { slot = i; entry = e }) ≡ found_at b n (index_of q (slots_to b n))
  unfolding none_to
  slot-found i l f g e h = rw (index-up_to q n i (λ j. read_slot b (320 * j)) f g l, lt-ltb i n l, h)

  pub nothing-found : none_to b q n → None ≡ found_at b n (index_of q (slots_to b n))
  unfolding none_to
  nothing-found f = rw (index-up_to-none q n (λ j. read_slot b (320 * j)) f, le-ltb n n (omega arith))

  -- as the contract of the search says it
  pub found-first : {No : ℕ → Type 0} {Yes : Found → Type 0} → (r : Option Found) → MatchOption r ((k : ℕ) → k < n → No k)
      (λ f. (f.slot < n) × (f.entry ≡ entry_at b (320 * f.slot)) × Yes f × ((k : ℕ) → k < f.slot → No k))
      → ((k : ℕ) → No k → false ≡ q (read_slot b (320 * k))) → ((f : Found) → Yes f → true ≡ q (read_slot b (320 * f.slot)))
      → r ≡ found_at b n (index_of q (slots_to b n))
  found-first None h none some = nothing-found (none_below b q n (λ k l. none k (h k l)))
  found-first (Some f) h none some = slot-found f.slot h.0 (none_below b q f.slot (λ k l. none k (h.3 k l))) (sym (some f h.2)) f.entry h.1

-- WHAT WAS FOUND, told by what a finder gave

pub found-is : (b : List ℕ) (n i : ℕ) (f : Found) → found_at b n i ≡ Some f → (f.slot ≡ i) × (f.slot < n) × (f.entry ≡ entry_at b (320 * f.slot))
found-is b n i f = go (ltb i n) refl
  where
    go : (v : Bool) → ltb i n ≡ v → cond {A = Option Found} v (Some (record { slot = i; entry = entry_at b (320 * i) })) None ≡ Some f → (f.slot ≡ i) × (f.slot < n) × (f.entry ≡ entry_at b (320 * f.slot))
    go true h g = let l : i < n = ltb-true i n h in let e : f ≡ record { slot = i; entry = entry_at b (320 * i) } = cc in rw e (refl, l, refl)
    go false h g = cc

pub nothing_is : (b : List ℕ) (n i : ℕ) → found_at b n i ≡ None → n ≤ i
nothing_is b n i = go (ltb i n) refl
  where
    go : (v : Bool) → ltb i n ≡ v → cond {A = Option Found} v (Some (record { slot = i; entry = entry_at b (320 * i) })) None ≡ None → n ≤ i
    go true h g = cc
    go false h g = ltb-false i n h

-- A NUMBER IN USE

count_held : (b : List ℕ) (n : ℕ) (p : Holding → Bool) → count (held_to 0 b n) p ≡ count (slots_to b n) (has 0 p)
unfolding held_to
count_held b n p = count_entries 0 (slots_to b n) p

-- as the library's `any` over the range says it
module _ (b : List ℕ) (n : ℕ) (p : Holding → Bool) where
  used : Bool
  used = leb 1 (count (held_to 0 b n) p)

  used-hit : (i : ℕ) → i < n → true ≡ has 0 p (read_slot b (320 * i)) → true ≡ used
  unfolding used
  used-hit i l t =
      let f : ℕ → Slot = λ j. read_slot b (320 * j) in
      let h : 1 ≤ count (slots_to b n) (has 0 p) = count_at (slots_to b n) i free (has 0 p) (rw (length-up_to n f) l) (ap (has 0 p) (get_or-up_to n f i free l) ∙ sym t) in
      rw (count_held b n p) (sym (le-leb _ _ h))

  used-none : ((i : ℕ) → i < n → false ≡ has 0 p (read_slot b (320 * i))) → false ≡ used
  unfolding used none_to
  used-none h = rw (count_held b n p, every-not (has 0 p) (slots_to b n) (none_below b (has 0 p) n h))

  pub any-used : (r : Bool) → MatchBool r ((k : ℕ) × (k < length (range_with_len 0 n)) × HoldsAt (λ i. true ≡ has 0 p (read_slot b (320 * i))) (range_with_len 0 n) k)
      (AllWithin (λ i. false ≡ has 0 p (read_slot b (320 * i))) (range_with_len 0 n) 0 (length (range_with_len 0 n))) → r ≡ leb 1 (count (held_to 0 b n) p)
  unfolding used
  any-used true h =
      let l : h.0 < n = rw (length-range_with_len 0 n) at h.1 in
      used-hit h.0 l (rw (get_or-range_with_len 0 n h.0 0 l, zero-add) at (h.2 0))
  any-used false h =
      used-none (λ i l. rw (get_or-range_with_len 0 n i 0 l, zero-add) at (h i 0 (omega arith) (rw (length-range_with_len 0 n) l)))

-- SERV-FULL, from what the code has counted: by the listed lines, and how many the address holds and may hold

module _ (lines : List ℕ) (slots : Slots) (a : ℕ) (ls : Lines) (listed_in : (ls.bytes.now ≡ lines) × (ls.count ≡ listed lines 16) × (ls.count ≤ 16))
    {h l : ℕ} (held : h ≡ held_in slots (held_by a)) (limit : l ≡ limit_of (lines_of ls) a) where
  room : Bool
  room = leb (share_of (lines_of ls) a) h && leb (slots.n - held_in slots any) (reserve (lines_of ls) (held_in slots))

  abbrev full_now : Bool
  full_now = full slots.n (lines_to lines (listed lines 16)) (held_in slots) a

  full_is : full_now ≡ leb l h || room
  unfolding full room
  full_is = rw (← listed_in.1, ← listed_in.0, ← held, ← limit)

  pub full-limit : l ≤ h → full_now ≡ true
  full-limit t = full_is ∙ rw (le-leb l h t)

  module _ (t : h < l) {s : ℕ} (share : s ≡ share_of (lines_of ls) a) where
    pub full-share : h < s → full_now ≡ false
    unfolding room
    full-share u = full_is ∙ rw (lt-leb l h t, ← share, lt-leb s h u)

    pub full-room : s ≤ h → {e k : ℕ} → e ≡ held_in slots any → k ≡ reserve (lines_of ls) (held_in slots) → full_now ≡ leb (slots.n - e) k
    unfolding room
    full-room u es ks = full_is ∙ rw (lt-leb l h t, ← share, le-leb s h u, ← es, ← ks)

-- THE NUMBER SEARCH

abbrev pub not_granted : Counts → ℕ → Bool
not_granted c x = eqb x 0 || leb 1 (c (numbered x))

fresh-mod : (k : ℕ) (c : Counts) (r s : ℕ) → r % 2 ^ 64 ≡ s % 2 ^ 64 → fresh_number k c r ≡ fresh_number k c s
unfolding fresh_number
fresh-mod zero c r s e = refl
fresh-mod (suc k) c r s e =
    let f : suc r % 2 ^ 64 ≡ suc s % 2 ^ 64 = omega arith in
    rw (e, fresh-mod k c (suc r) (suc s) f)

pub fresh-none : (c : Counts) (r : ℕ) → fresh_number 0 c r ≡ 0
unfolding fresh_number
fresh-none c r = refl

pub fresh-here : (k : ℕ) (c : Counts) (x : ℕ) → 0 < k → x < 2 ^ 64 → not_granted c x ≡ false → fresh_number k c x ≡ x
unfolding fresh_number
fresh-here zero c x h l f = absurd (omega arith)
fresh-here (suc k) c x h l f = let e : x % 2 ^ 64 ≡ x = omega arith in rw (e, f)

pub fresh-next : (k : ℕ) (c : Counts) (x y : ℕ) → 0 < k → x < 2 ^ 64 → y ≡ (x + 1) % 2 ^ 64 → not_granted c x ≡ true → fresh_number k c x ≡ fresh_number (k - 1) c y
unfolding fresh_number
fresh-next zero c x y h l z t = absurd (omega arith)
fresh-next (suc k) c x y h l z t =
    let e : x % 2 ^ 64 ≡ x = omega arith in
    let m : suc x % 2 ^ 64 ≡ y % 2 ^ 64 = omega arith in
    let d : suc k - 1 ≡ k = omega arith in
    rw (e, t, d) (fresh-mod k c (suc x) y m)
