-- The parts of a query make the whole: the first part that refuses gives the model's lowest refusal, and where there is none the query is the datagram's. Assumes nothing.
use Prim.Native.Nat.{ℕ, suc, ◌-◌, ◌<◌}
use mathlib.Core.Path.{◌≡◌, refl, sym, ap, ◌∙◌}
use mathlib.Core.List.{List, [], ◌∷◌, map}
use mathlib.Core.Bool.{Bool, true, false, not}
use native.Mathlib.Omega.{arith}
use lib.ListN.{length, get_or, take}
use lib.Seq.{take_all}
use lib.Dec.{eqb}
use borrow.Author.Tests.{eq-eqb, ne_eqb, eqb-true}
use Rattle.std.specs.Prelude.{Option, Some, is_some, Ok, Err}
use Rattle.std.specs.Bool.{then_some}
use Rattle.model.specs.Lists.{every}
use Rattle.model.specs.Query.{wrong_size, qdcount, good_header, good_questions, questions_end, opt_data, options_fill, good_opt, EdnsOption, llq_options, llq_at, llq_option, matched}
use Rattle.model.specs.Calls.{refusal}
use Rattle.model.proofs.ListLaws.{and_left, and_right, length-map, get_or-map}
use Rattle.model.proofs.QueryLaws.{start-min}
use Rattle.wire.specs.Records.{padded, option_of, option_record}
use Rattle.wire.specs.Read.{good_opt_record}
use Rattle.wire.specs.declared.Cursor.{Cursor}
use Rattle.wire.specs.declared.LlqOption.{LlqOption}
use Rattle.wire.proofs.Pad.{pad-at}
use Rattle.query.specs.declared.Refusal.{Refusal}
use Rattle.query.specs.declared.Refusal.TheVariants as refused
use Rattle.query.specs.declared.QueryHeader.{QueryHeader}
use Rattle.query.specs.declared.Questions.{Questions}
use Rattle.query.specs.declared.Options.{Options}
use Rattle.query.specs.Parts.{number_of, header_refusal, ReadsHeader, ReadsQuestions, ReadsOpt, blank_option, is_sized, llq_from, ReadsOptions}
use Rattle.query.specs.Whole.{query_refusal, match_of, Reads}
use Rattle.query.proofs.QuestionLaws as questions

-- no refusal has number 0
pub number-some : (e : Refusal) → number_of e ≡ suc (number_of e - 1)
number-some refused.Length = refl
number-some refused.Header = refl
number-some refused.Questions = refl
number-some refused.Opt = refl
number-some refused.NoLlq = refl

is_some-then_some : {A : Type 0} (t : Bool) (x : A) → is_some (then_some t x) ≡ t
is_some-then_some true x = refl
is_some-then_some false x = refl

then_some-is : {A : Type 0} (t : Bool) (x y : A) → then_some t x ≡ Some y → (t ≡ true) × (x ≡ y)
then_some-is true x y e = (refl, cc)
then_some-is false x y e = cc

-- THE HEADER

header-first : (w g : Bool) (k : ℕ) (rest : List (ℕ × Bool)) → suc k ≡ refusal ((3, w) ∷ (4, not g) ∷ []) → suc k ≡ refusal ((3, w) ∷ (4, not g) ∷ rest)
unfolding refusal
header-first true g k rest e = e
header-first false false k rest e = e
header-first false true k rest e = absurd (omega arith)

header-passes : (w g : Bool) → refusal ((3, w) ∷ (4, not g) ∷ []) ≡ 0 → (w ≡ false) × (g ≡ true)
unfolding refusal
header-passes true g e = absurd (omega arith)
header-passes false false e = absurd (omega arith)
header-passes false true e = (refl, refl)

pub header-refused : (d : List ℕ) (e : Refusal) → ReadsHeader d (Err e) → Reads d (Err e)
unfolding header_refusal query_refusal
header-refused d e h = number-some e ∙ header-first (wrong_size d) (good_header d) (number_of e - 1) _ (sym (number-some e) ∙ h)

-- THE PARTS BEHIND IT

module _ (d : List ℕ) {h : QueryHeader} (he : ReadsHeader d (Ok h)) where
  passes : (wrong_size d ≡ false) × (good_header d ≡ true)
  unfolding header_refusal
  passes = header-passes (wrong_size d) (good_header d) he.0

  asked : h.count ≡ qdcount d
  asked = he.1.count

  pub questions-refused : (e : Refusal) → ReadsQuestions d h.count (Err e) → Reads d (Err e)
  unfolding query_refusal refusal
  questions-refused e b = let g : good_questions d (qdcount d) ≡ false = rw asked at b.0 in rw (b.1, passes.0, passes.1, g)

  module _ {q : Questions} (qe : ReadsQuestions d h.count (Ok q)) where
    asked-good : good_questions d (qdcount d) ≡ true
    asked-good = rw asked at qe.0

    ends : q.next.at ≡ questions_end d
    ends = rw asked at (qe.1.next he.1.at_least)

    pub opt-refused : (e : Refusal) → ReadsOpt d q.next.at (Err e) → Reads d (Err e)
    unfolding query_refusal refusal good_opt
    opt-refused e b = let g : good_opt_record d (questions_end d) ≡ false = rw ends at b.0 in rw (b.1, passes.0, passes.1, asked-good, g)

    module _ {x : Cursor} (xe : ReadsOpt d q.next.at (Ok x)) where
      opt-record-good : good_opt_record d (questions_end d) ≡ true
      opt-record-good = rw ends at xe.0

      first : x.at ≡ opt_data (questions_end d)
      first = xe.1 ∙ ap opt_data ends

      pub options-refused : (e : Refusal) → ReadsOptions d x.at (Err e) → Reads d (Err e)
      unfolding query_refusal refusal good_opt
      options-refused e b =
          let g : options_fill (suc (length d)) d (opt_data (questions_end d)) ≡ false = rw first at b.0 in
          rw (b.1, passes.0, passes.1, asked-good, opt-record-good, g)

      module _ {o : Options} (oe : ReadsOptions d x.at (Ok o)) where
        fill : options_fill (suc (length d)) d (opt_data (questions_end d)) ≡ true
        fill = rw first at oe.0

        options : llq_options d ≡ llq_from d x.at
        unfolding llq_options
        options = rw first

        counted : o.count ≡ length (llq_options d)
        counted = rw options oe.1.count

        all_sized : o.sized ≡ every is_sized (llq_options d)
        all_sized = rw options oe.1.sized

        -- the ladder's last rung
        last : (v : Bool) → eqb o.count 0 ≡ v → query_refusal d ≡ refusal ((7, v) ∷ [])
        unfolding query_refusal refusal good_opt
        last v e = rw (passes.0, passes.1, asked-good, opt-record-good, fill, ← counted, e)

        pub none-refused : o.count ≡ 0 → Reads d (Err refused.NoLlq)
        unfolding refusal
        none-refused z = sym (last true (eq-eqb o.count 0 z))

        match_is : match_of o.count h.count o.sized ≡ matched d
        unfolding matched
        match_is = rw (counted, all_sized, asked)

        -- option i, where the options matched
        option-at : o.count ≡ h.count → o.sized ≡ true → (i : ℕ) (e : LlqOption) → i < h.count → option_of (get_or o.all i e) ≡ llq_option d i
        unfolding llq_at
        option-at c s i e l =
            let f = he.1.at_most in
            let n : length (llq_options d) ≡ h.count = sym counted ∙ c in
            let value : EdnsOption → LlqOption = λ x. option_record d x.start in
            let a : o.all ≡ padded 8 blank_option (take 8 (map value (llq_options d))) = rw options (oe.1.all s) in
            let k : length (map value (llq_options d)) ≡ h.count = length-map value (llq_options d) ∙ n in
            let t : take 8 (map value (llq_options d)) ≡ map value (llq_options d) = take_all 8 (map value (llq_options d)) (omega arith) in
            let g : get_or o.all i e ≡ value (get_or (llq_options d) i (record { code = 0; start = 0; size = 0 })) =
            rw (a, t) (pad-at 8 blank_option (map value (llq_options d)) i e (omega arith)
            ∙ get_or-map value (llq_options d) i (record { code = 0; start = 0; size = 0 }) e (omega arith)) in
            ap option_of g

        -- the query, with its options where they match
        pub reads : (o.count ≡ 0 → ⊥) → (m : Bool) → m ≡ match_of o.count h.count o.sized → (os : Option (List LlqOption)) → os ≡ then_some m o.all
            → Reads d (Ok (record { number = h.number; desired = h.desired; count = h.count; questions = q.all; end = q.next.at; options = os }))
        unfolding refusal
        reads some m t os u =
            let a = qe.1.all he.1.at_least in
            let w = xe.2 in
            let f = xe.1 in (
              last false (ne_eqb o.count 0 some),
              record {
                number = he.1.number;
                desired = he.1.desired;
                count = asked;
                at_least = he.1.at_least;
                at_most = he.1.at_most;
                question = λ i e l. rw a (questions.holds-question d h.count qe.0 i e l);
                placed = λ i e l. rw a (questions.holds-placed d h.count qe.0 i e l);
                len = λ i e l. rw a (questions.holds-len d h.count qe.0 i e l);
                end = ends;
                from = rw (qe.1.next he.1.at_least) (start-min d h.count);
                within = omega arith;
                matched = ap is_some u ∙ is_some-then_some m o.all ∙ t ∙ match_is;
                option = λ xs y i e l.
                    let v = then_some-is m o.all xs (sym u ∙ y) in
                    let z = sym t ∙ v.0 in
                    rw (← v.1)
                    (option-at (eqb-true o.count h.count (and_left (eqb o.count h.count) o.sized z)) (and_right (eqb o.count h.count) o.sized z) i e l);
              },
            )
