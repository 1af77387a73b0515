-- What the tests of an option and of an entry say: well-formed setup, response and refresh, and the entry that they name. Assumes nothing.
use Prim.Native.Nat.{ℕ, ◌≤◌}
use mathlib.Core.Path.{◌≡◌, refl}
use mathlib.Core.Bool.{Bool, true, false, not, cond, ◌&&◌, ◌||◌}
use native.Mathlib.Omega.{arith}
use lib.Dec.{eqb, leb}
use borrow.Author.Tests.{eqb-true, eqb-false, eq-eqb, ne_eqb, leb-true, le-leb}
use Rattle.model.specs.Lists.{count}
use Rattle.model.specs.Clock.{age_at}
use Rattle.model.specs.Query.{Question, LlqOption}
use Rattle.model.specs.Table.{Entry, Table}
use Rattle.model.specs.Rules.{holding, holdings, numbered, asks}
use Rattle.model.specs.Sound.{Sound}
use Rattle.model.specs.Serve.{Sender, Kind, bad_version, bad_format, setup, response, refresh, kind_of_option, life_left, answers, right_lease, refreshes}
use Rattle.model.proofs.ListLaws.{and_left, and_right, and_both}
use Rattle.model.proofs.Facts.{agree, agreed, asker, one-asks}
use Rattle.claims.specs.Changes.{Setup, Response, Refresh, Own, RightResponse, RightRefresh}

-- THE KIND of an option says what it is
abbrev pub OfKind : LlqOption → Kind → Type 0
OfKind o bad_version = Unit {0}
OfKind o bad_format = Unit {0}
OfKind o setup = Setup o
OfKind o response = Response o
OfKind o refresh = Refresh o

pub of-kind : (o : LlqOption) → OfKind o (kind_of_option o)
unfolding kind_of_option
of-kind o = go (eqb o.version 1) (eqb o.opcode 1) (eqb o.opcode 2) (eqb o.error 0) (eqb o.number 0) refl refl refl refl refl
  where
    go : (v p q e n : Bool) → eqb o.version 1 ≡ v → eqb o.opcode 1 ≡ p → eqb o.opcode 2 ≡ q → eqb o.error 0 ≡ e → eqb o.number 0 ≡ n
        → OfKind o (cond (not v) bad_version (cond (not (p || q) || not e) bad_format (cond q refresh (cond n setup response))))
    go false p q e n hv hp hq he hn = tt
    go true false false e n hv hp hq he hn = tt
    go true false true false n hv hp hq he hn = tt
    go true true q false n hv hp hq he hn = tt
    go true false true true n hv hp hq he hn =
        record { version = eqb-true o.version 1 hv; opcode = eqb-true o.opcode 2 hq; error = eqb-true o.error 0 he }
    go true true true true n hv hp hq he hn =
        record { version = eqb-true o.version 1 hv; opcode = eqb-true o.opcode 2 hq; error = eqb-true o.error 0 he }
    go true true false true true hv hp hq he hn =
        record {
          version = eqb-true o.version 1 hv;
          opcode = eqb-true o.opcode 1 hp;
          error = eqb-true o.error 0 he;
          number = eqb-true o.number 0 hn;
        }
    go true true false true false hv hp hq he hn =
        record {
          version = eqb-true o.version 1 hv;
          opcode = eqb-true o.opcode 1 hp;
          error = eqb-true o.error 0 he;
          number = eqb-false o.number 0 hn;
        }

pub setup-kind : (o : LlqOption) → Setup o → kind_of_option o ≡ setup
unfolding kind_of_option
setup-kind o x = rw (x.version, x.opcode, x.error, x.number)

pub response-kind : (o : LlqOption) → Response o → kind_of_option o ≡ response
unfolding kind_of_option
response-kind o x = rw (x.version, x.opcode, x.error, ne_eqb o.number 0 x.number)

-- THE ENTRY that a test names, at any running count
module _ (s : Sender) (q : Question) (r : ℕ) (e : Entry) where
  pub asks-own : asks s.address s.port q (holding r e) ≡ true → Own s q e
  asks-own h =
      let g = agree (holding r e) (asker s.address s.port q) h in
      record { address = g.address; port = g.port; name = g.name; qtype = g.qtype; qclass = g.qclass }

  pub own-asks : Own s q e → asks s.address s.port q (holding r e) ≡ true
  own-asks x =
      agreed (holding r e) (asker s.address s.port q)
      (record { address = x.address; port = x.port; qtype = x.qtype; qclass = x.qclass; name = x.name })

  module _ (o : LlqOption) where
    pub answers-right : Response o → answers s q o (holding r e) ≡ true → RightResponse r s q o e
    answers-right x h =
        let a = eqb e.number o.number in
        let b = asks s.address s.port q (holding r e) in
        let c = right_lease o (holding r e) in
        let p : a && b ≡ true = and_left (a && b) c h in
        let f : c ≡ true = and_right (a && b) c h in
        let life = life_left e.lease (age_at r e.stamp) in
        let least = leb-true life o.lease (and_left (leb life o.lease) (leb o.lease e.lease) f) in
        record {
          response = x;
          own = asks-own (and_right a b p);
          number = eqb-true e.number o.number (and_left a b p);
          least = omega (arith, least);
          most = leb-true o.lease e.lease (and_right (leb life o.lease) (leb o.lease e.lease) f);
        }

    pub right-answers : RightResponse r s q o e → answers s q o (holding r e) ≡ true
    right-answers x =
        let a = eqb e.number o.number in
        let b = asks s.address s.port q (holding r e) in
        let life = life_left e.lease (age_at r e.stamp) in
        let least = x.least in
        and_both (a && b) (right_lease o (holding r e)) (and_both a b (eq-eqb e.number o.number x.number) (own-asks x.own))
        (and_both (leb life o.lease) (leb o.lease e.lease) (le-leb life o.lease (omega (arith, least))) (le-leb o.lease e.lease x.most))

    pub refreshes-right : Refresh o → refreshes s q o (holding r e) ≡ true → RightRefresh s q o e
    refreshes-right x h =
        let a = e.established in
        let b = eqb e.number o.number in
        let c = asks s.address s.port q (holding r e) in
        let p : b && c ≡ true = and_right a (b && c) h in
        record {
          refresh = x;
          own = asks-own (and_right b c p);
          number = eqb-true e.number o.number (and_left b c p);
          established = and_left a (b && c) h;
        }

-- in a sound table at most one entry is the one that a response is right for
pub one-answers : (s : Sender) (q : Question) (o : LlqOption) (t : Table) → Sound t → count (holdings t) (answers s q o) ≤ 1
one-answers s q o t x =
    one-asks t x s.address s.port q (answers s q o)
    (λ h p.
    let a = numbered o.number h in
    let b = asks s.address s.port q h in
    and_right a b (and_left (a && b) (right_lease o h) p))
