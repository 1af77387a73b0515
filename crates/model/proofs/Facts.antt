-- The test of soundness and the record of facts say the same. Assumes nothing.
use Prim.Native.Nat.{ℕ, ◌+◌, ◌≤◌}
use native.Mathlib.Omega.{arith}
use mathlib.Core.Path.{◌≡◌, refl, sym, ap, ◌∙◌}
use mathlib.Core.Bool.{Bool, true, false, not, ◌&&◌}
use mathlib.Core.List.{List, [], ◌∷◌}
use mathlib.Core.Logic.{⊎_elim, ◌⊎◌, inl, inr}
use lib.ListN.{length}
use lib.Dec.{eqb, leb, ltb}
use borrow.Author.Tests.{eqb-true, eq-eqb, leb-true, le-leb, ltb-true, lt-ltb}
use Rattle.model.specs.Lists.{bit, count, any, every, no_two, same}
use Rattle.model.specs.Query.{Question}
use Rattle.model.specs.Table.{Line, Table, cycle_in}
use Rattle.model.specs.Rules.{Holding, holdings, held_by, numbered, asks, limit_of, reserve, shares}
use Rattle.model.specs.Sound.{valid_line, same_address, non_zero_number, valid_lease, live, valid_name, valid_entry, same_number, same_question, Sound, sound_roster, sound_holdings, sound_table}
use Rattle.model.proofs.ListLaws.{and_left, and_right, eqb-sym, same-sym, count-mono, count-flip, every-none, none-every, every-all, every-both, one_at_most, at_most_one, same_true, same_refl}

-- QUESTIONS

pub same-question-refl : (k : Holding) → same_question k k ≡ true
same-question-refl k =
    rw (
      eq-eqb k.address k.address refl,
      eq-eqb k.port k.port refl,
      eq-eqb k.qtype k.qtype refl,
      eq-eqb k.qclass k.qclass refl,
    )
    (same_refl k.name)

-- two holdings of one address, port and question
pub record Agree (x y : Holding) : Type 0 where
  pub address : x.address ≡ y.address
  pub port : x.port ≡ y.port
  pub qtype : x.qtype ≡ y.qtype
  pub qclass : x.qclass ≡ y.qclass
  pub name : x.name ≡ y.name

-- what the test says of two holdings
pub agree : (x y : Holding) → same_question x y ≡ true → Agree x y
agree x y p =
    let a = eqb x.address y.address in
    let b = eqb x.port y.port in
    let c = eqb x.qtype y.qtype in
    let d = eqb x.qclass y.qclass in
    let e = same x.name y.name in
    let p4 : a && b && c && d ≡ true = and_left (a && b && c && d) e p in
    let p3 : a && b && c ≡ true = and_left (a && b && c) d p4 in
    let p2 : a && b ≡ true = and_left (a && b) c p3 in
    record {
      address = eqb-true x.address y.address (and_left a b p2);
      port = eqb-true x.port y.port (and_right a b p2);
      qtype = eqb-true x.qtype y.qtype (and_right (a && b) c p3);
      qclass = eqb-true x.qclass y.qclass (and_right (a && b && c) d p4);
      name = same_true x.name y.name (and_right (a && b && c && d) e p);
    }

pub agreed : (x y : Holding) → Agree x y → same_question x y ≡ true
agreed x y g =
    rw (
      eq-eqb x.address y.address g.address,
      eq-eqb x.port y.port g.port,
      eq-eqb x.qtype y.qtype g.qtype,
      eq-eqb x.qclass y.qclass g.qclass,
      g.name,
    )
    (same_refl y.name)

pub same-question-sym : (x y : Holding) → same_question x y ≡ same_question y x
same-question-sym x y =
    rw (
      eqb-sym x.address y.address,
      eqb-sym x.port y.port,
      eqb-sym x.qtype y.qtype,
      eqb-sym x.qclass y.qclass,
      same-sym x.name y.name,
    )

pub same-question-via : (k x y : Holding) → same_question k x ≡ true → same_question k y ≡ true → same_question x y ≡ true
same-question-via k x y p q =
    let g = agree k x p in
    let h = agree k y q in
    agreed x y
    (record {
      address = sym g.address ∙ h.address;
      port = sym g.port ∙ h.port;
      qtype = sym g.qtype ∙ h.qtype;
      qclass = sym g.qclass ∙ h.qclass;
      name = sym g.name ∙ h.name;
    })

-- a holding of this address, port and question: `asks` of them is `same_question` with it
abbrev pub asker : ℕ → ℕ → Question → Holding
asker a p q =
    record { established = false; address = a; port = p; number = 0; lease = 0; age = 0; qtype = q.qtype; qclass = q.qclass; name = q.name }

-- in a sound table at most one entry passes a test that only those of one address, port and question pass
pub one-asks : (t : Table) → Sound t → (a p : ℕ) (q : Question) (m : Holding → Bool) → ((h : Holding) → m h ≡ true → asks a p q h ≡ true)
    → count (holdings t) m ≤ 1
one-asks t s a p q m i =
    omega (
      arith,
      s.questions (asker a p q),
      count-mono (holdings t) m (same_question (asker a p q)) (λ h e. same-question-sym (asker a p q) h ∙ i h e),
    )

-- a rule of each holding's address is a rule of every address that holds
by_address : (p : ℕ → Bool) (l : List Holding) (a : ℕ) → every (λ h. p h.address) l ≡ true → (count l (held_by a) ≡ 0) ⊎ (p a ≡ true)
unfolding every
by_address p [] a h = inl refl
by_address p (x ∷ l) a h = go (eqb x.address a) refl (by_address p l a (and_right (p x.address) (every (λ h. p h.address) l) h))
  where
    go : (v : Bool) → eqb x.address a ≡ v → (count l (held_by a) ≡ 0) ⊎ (p a ≡ true) → (bit v + count l (held_by a) ≡ 0) ⊎ (p a ≡ true)
    go true e z = inr (ap p (sym (eqb-true x.address a e)) ∙ and_left (p x.address) (every (λ h. p h.address) l) h)
    go false e z = ⊎_elim (λ (w : count l (held_by a) ≡ 0). inl (omega arith)) (λ (w : p a ≡ true). inr w) z

-- no address holds more than its limit exactly if none of an entry does
module _ (ls : List Line) (hs : List Holding) where
  pub within_all : every (λ h. leb (count hs (held_by h.address)) (limit_of ls h.address)) hs ≡ true → (a : ℕ) → count hs (held_by a) ≤ limit_of ls a
  within_all h a =
      ⊎_elim
      (λ (z : count hs (held_by a) ≡ 0). omega arith)
      (λ (z : leb (count hs (held_by a)) (limit_of ls a) ≡ true). leb-true (count hs (held_by a)) (limit_of ls a) z)
      (by_address (λ a. leb (count hs (held_by a)) (limit_of ls a)) hs a h)

  pub all-within : ((a : ℕ) → count hs (held_by a) ≤ limit_of ls a) → every (λ h. leb (count hs (held_by h.address)) (limit_of ls h.address)) hs ≡ true
  all-within h = every-all (λ h. leb (count hs (held_by h.address)) (limit_of ls h.address)) hs (λ x. le-leb _ _ (h x.address))

-- an entry rule of all is four, one for each sentence
pub valid-parts : (hs : List Holding) → every valid_entry hs ≡ every non_zero_number hs && every valid_lease hs && every live hs && every valid_name hs
valid-parts hs =
    every-both (λ h. non_zero_number h && valid_lease h && live h) valid_name hs
    ∙ ap (λ (b : Bool). b && every valid_name hs)
    (every-both (λ h. non_zero_number h && valid_lease h) live hs ∙ ap (λ (b : Bool). b && every live hs) (every-both non_zero_number valid_lease hs))

-- THE ROSTER'S RULES, of n slots

pub record RosterFacts (n : ℕ) (ls : List Line) : Type 0 where
  pub listed_once : (a : ℕ) → count ls (λ l. eqb l.address a) ≤ 1
  pub valid_lines : count ls (λ l. not (valid_line l)) ≡ 0
  pub share_sum : shares ls ≤ n

pub roster-facts : (n : ℕ) (ls : List Line) → sound_roster n ls ≡ true → RosterFacts n ls
unfolding sound_roster
roster-facts n ls s =
    let r1 = every valid_line ls in
    let r2 = no_two same_address ls in
    let r3 = leb (shares ls) n in
    let q2 : r1 && r2 ≡ true = and_left (r1 && r2) r3 s in
    record {
      listed_once = λ a.
          one_at_most same_address (λ l. eqb l.address a) ls
          (λ x y p q. eq-eqb x.address y.address (eqb-true x.address a p ∙ sym (eqb-true y.address a q))) (and_right r1 r2 q2);
      valid_lines = every-none valid_line ls (and_left r1 r2 q2);
      share_sum = leb-true (shares ls) n (and_right (r1 && r2) r3 s);
    }

pub facts-roster : (n : ℕ) (ls : List Line) → RosterFacts n ls → sound_roster n ls ≡ true
unfolding sound_roster
facts-roster n ls f =
    rw (
      none-every valid_line ls f.valid_lines,
      at_most_one same_address ls (λ x. eq-eqb x.address x.address refl)
          (λ x. rw (count-flip (λ (l : Line). l.address) ls x.address) (f.listed_once x.address)),
      le-leb _ _ f.share_sum,
    )

-- ALL

module _ (t : Table) where
  pub sound-facts : sound_table t ≡ true → Sound t
  unfolding sound_table sound_holdings
  sound-facts s =
      let hs = holdings t in
      let n = length t.slots in
      let ls = t.roster in
      let pl = ltb t.clock.place (cycle_in t) in
      let n1 = leb 1 n in
      let n64 = leb n 64 in
      let m16 = leb (length ls) 16 in
      let rr = sound_roster n ls in
      let e1 = every non_zero_number hs in
      let e2 = every valid_lease hs in
      let e3 = every live hs in
      let e4 = every valid_name hs in
      let h1 = every valid_entry hs in
      let h2 = no_two same_number hs in
      let h3 = no_two same_question hs in
      let h4 = every (λ h. leb (count hs (held_by h.address)) (limit_of ls h.address)) hs in
      let h5 = leb (reserve ls (count hs) + count hs any) n in
      let hh = h1 && h2 && h3 && h4 && h5 in
      let s4 : pl && (n1 && n64) && m16 && rr ≡ true = and_left (pl && (n1 && n64) && m16 && rr) hh s in
      let s3 : pl && (n1 && n64) && m16 ≡ true = and_left (pl && (n1 && n64) && m16) rr s4 in
      let s2 : pl && (n1 && n64) ≡ true = and_left (pl && (n1 && n64)) m16 s3 in
      let sz : n1 && n64 ≡ true = and_right pl (n1 && n64) s2 in
      let ro = roster-facts n ls (and_right (pl && (n1 && n64) && m16) rr s4) in
      let k5 : hh ≡ true = and_right (pl && (n1 && n64) && m16 && rr) hh s in
      let k4 : h1 && h2 && h3 && h4 ≡ true = and_left (h1 && h2 && h3 && h4) h5 k5 in
      let k3 : h1 && h2 && h3 ≡ true = and_left (h1 && h2 && h3) h4 k4 in
      let k2 : h1 && h2 ≡ true = and_left (h1 && h2) h3 k3 in
      let v4 : e1 && e2 && e3 && e4 ≡ true = sym (valid-parts hs) ∙ and_left h1 h2 k2 in
      let v3 : e1 && e2 && e3 ≡ true = and_left (e1 && e2 && e3) e4 v4 in
      let v2 : e1 && e2 ≡ true = and_left (e1 && e2) e3 v3 in
      record {
        place = ltb-true t.clock.place (cycle_in t) (and_left pl (n1 && n64) s2);
        slots_min = leb-true 1 n (and_left n1 n64 sz);
        slots_max = leb-true n 64 (and_right n1 n64 sz);
        lines = leb-true (length ls) 16 (and_right (pl && (n1 && n64)) m16 s3);
        listed_once = ro.listed_once;
        valid_lines = ro.valid_lines;
        share_sum = ro.share_sum;
        non_zero = every-none non_zero_number hs (and_left e1 e2 v2);
        numbers = λ x.
            one_at_most same_number (numbered x) hs
            (λ u v p q. eq-eqb u.number v.number (eqb-true u.number x p ∙ sym (eqb-true v.number x q))) (and_right h1 h2 k2);
        leases = every-none valid_lease hs (and_right e1 e2 v2);
        ages = every-none live hs (and_right (e1 && e2) e3 v3);
        names = every-none valid_name hs (and_right (e1 && e2 && e3) e4 v4);
        questions = λ k. one_at_most same_question (same_question k) hs (same-question-via k) (and_right (h1 && h2) h3 k3);
        limits = within_all ls hs (and_right (h1 && h2 && h3) h4 k4);
        reserved = leb-true (reserve ls (count hs) + count hs any) n (and_right (h1 && h2 && h3 && h4) h5 k5);
      }

  pub facts-sound : Sound t → sound_table t ≡ true
  unfolding sound_table sound_holdings
  facts-sound f =
      let valid : every valid_entry (holdings t) ≡ true =
      valid-parts (holdings t)
      ∙ (rw (
        none-every non_zero_number (holdings t) f.non_zero,
        none-every valid_lease (holdings t) f.leases,
        none-every live (holdings t) f.ages,
        none-every valid_name (holdings t) f.names,
      )) in
      rw (
        lt-ltb _ _ f.place,
        le-leb _ _ f.slots_min,
        le-leb _ _ f.slots_max,
        le-leb _ _ f.lines,
        facts-roster (length t.slots) t.roster (record { listed_once = f.listed_once; valid_lines = f.valid_lines; share_sum = f.share_sum }),
        valid,
        at_most_one same_number (holdings t) (λ x. eq-eqb x.number x.number refl)
            (λ x. rw (count-flip (λ (h : Holding). h.number) (holdings t) x.number) (f.numbers x.number)),
        at_most_one same_question (holdings t) same-question-refl f.questions,
        all-within t.roster (holdings t) f.limits,
        le-leb _ _ f.reserved,
      )
