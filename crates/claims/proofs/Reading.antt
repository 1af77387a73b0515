-- Claim 8 of the model's reader. Assumes nothing.
use Prim.Native.Nat.{ℕ, zero, suc, ◌+◌, ◌<◌}
use native.Mathlib.Omega.{arith}
use mathlib.Core.Path.{◌≡◌, refl, sym, ap, ◌∙◌, subst}
use mathlib.Core.Bool.{Bool, true, false, ◌&&◌}
use mathlib.Core.List.{List, [], ◌∷◌, map}
use mathlib.Core.Logic.{⊎_elim}
use lib.ListN.{length, get_or}
use lib.Dec.{eqb, leb}
use borrow.Author.Tests.{leb-true, leb-false, eqb-true, eqb-false, eq-eqb, lt-leb}
use Rattle.model.specs.Lists.{keep, every}
use Rattle.model.specs.Numbers.{big_endian, part}
use Rattle.model.specs.Names.{upper, fold}
use Rattle.model.specs.Query.{EdnsOption, good_option, option_at, option_end, options_fill, options_from, good_opt, good_question, good_questions, llq_options, llq_option, llq_at, qdcount, questions_end, question_start, question_at, name_at, matched}
use Rattle.model.proofs.ListLaws.{one_of, test, never, and_left, and_right, and_both, length-map, get_or-map, every-at, at_every}
use Rattle.model.proofs.NumberLaws.{get_or-part, length_part}
use Rattle.model.proofs.NameLaws.{upper_is, fold_same, question-within}
use Rattle.model.proofs.QueryLaws.{good-at}
use Rattle.claims.specs.Refusals.{two_bytes}
use Rattle.claims.specs.Reading.{Folded, QuestionRead, LlqPlaces, OptionRead, Matching, ReadsQueries}
use Rattle.claims.proofs.Refusals.NameReading.{end-size}
use Rattle.claims.proofs.Refusals.OptReading.{end_of}
use Rattle.claims.proofs.Refusals.QuestionReading.{big-two, start_is, end_is, bad-questions}
use Rattle.claims.proofs.Refusals.OptReading.{bad-opt, opt-fills}

-- THE FOLD

fold-upper : (x : ℕ) → upper x ≡ true → fold x ≡ x + 32
unfolding fold
fold-upper x h = rw h

pub folded : (x : ℕ) → Folded x (fold x)
folded x =
    ⊎_elim
    (λ (h : upper x ≡ true). Folded.letter (upper_is x h).0 (upper_is x h).1 (fold-upper x h))
    (λ (h : upper x ≡ false).
    ⊎_elim
    (λ (l : leb 65 x ≡ true).
    ⊎_elim
    (λ (m : leb x 90 ≡ true). never (and_both (leb 65 x) (leb x 90) l m) h)
    (λ (m : leb x 90 ≡ false). Folded.over (leb-false x 90 m) (fold_same x h))
    (test (leb x 90)))
    (λ (l : leb 65 x ≡ false). Folded.under (leb-false 65 x l) (fold_same x h))
    (test (leb 65 x)))
    (test (upper x))

module _ (d : List ℕ) where
  -- QUESTIONS

  question-at : (p e : ℕ) → good_question d p ≡ true → p + name_at d p ≡ e → QuestionRead d p e (question_at d p)
  unfolding question_at
  question-at p e g h =
      let k = name_at d p in
      let w = question-within d p g in
      let n : length (part p k d) ≡ k = length_part p k d (omega (arith, w.2)) in
      record {
        size = ap (λ (x : ℕ). p + x) (length-map fold (part p k d) ∙ n) ∙ h;
        name = λ j l.
            let j<k : j < k = omega (arith, h) in
            subst (Folded (get_or d (p + j) 0))
            (sym (get_or-map fold (part p k d) j 0 0 (subst (λ (x : ℕ). j < x) (sym n) j<k) ∙ ap fold (get_or-part p k d j j<k)))
            (folded (get_or d (p + j) 0));
        qtype = big-two d (p + k) ∙ ap (λ (x : ℕ). two_bytes d x) h;
        qclass = big-two d (p + k + 2) ∙ ap (λ (x : ℕ). two_bytes d (x + 2)) h;
      }

  -- OPTIONS

  abbrev llq : EdnsOption → Bool
  llq o = eqb o.code 1

  record Placed (k q : ℕ) : Type 0 where
    places : List ℕ
    are : LlqPlaces d q places
    read : keep llq (options_from k d q) ≡ map (option_at d) places

  none_left : (k q : ℕ) → q ≡ length d → keep llq (options_from (suc k) d q) ≡ []
  unfolding options_from good_option keep
  none_left k q h = let e : leb (option_end d q) (length d) ≡ false = lt-leb (option_end d q) (length d) (omega (arith, end_of d q)) in rw e

  one-llq : (k q : ℕ) → good_option d q ≡ true → eqb (big_endian d q 2) 1 ≡ true
      → keep llq (options_from (suc k) d q) ≡ option_at d q ∷ keep llq (options_from k d (option_end d q))
  unfolding options_from option_at keep
  one-llq k q h e = rw (h, e)

  one-other : (k q : ℕ) → good_option d q ≡ true → eqb (big_endian d q 2) 1 ≡ false
      → keep llq (options_from (suc k) d q) ≡ keep llq (options_from k d (option_end d q))
  unfolding options_from option_at keep
  one-other k q h e = rw (h, e)

  inside : (q : ℕ) → good_option d q ≡ true → q < length d
  unfolding good_option
  inside q h = omega (arith, leb-true (option_end d q) (length d) h, end_of d q)

  placed : (k q : ℕ) → options_fill k d q ≡ true → Placed k q
  unfolding options_fill
  placed zero q h = never h refl
  placed (suc k) q h =
      one_of (eqb q (length d)) (good_option d q && options_fill k d (option_end d q))
      (λ x.
      let e = eqb-true q (length d) x in
      record { places = []; are = LlqPlaces.end q e; read = none_left k q e })
      (λ x.
      let g = and_left (good_option d q) (options_fill k d (option_end d q)) x in
      let m = placed k (option_end d q) (and_right (good_option d q) (options_fill k d (option_end d q)) x) in
      let rest : LlqPlaces d (q + 4 + two_bytes d (q + 2)) m.places = subst (λ (r : ℕ). LlqPlaces d r m.places) (end_of d q) m.are in
      ⊎_elim
      (λ (e : eqb (big_endian d q 2) 1 ≡ true).
      record {
        places = q ∷ m.places;
        are = LlqPlaces.llq q m.places (inside q g) (sym (big-two d q) ∙ eqb-true (big_endian d q 2) 1 e) rest;
        read = one-llq k q g e ∙ ap (λ (l : List EdnsOption). option_at d q ∷ l) m.read;
      })
      (λ (e : eqb (big_endian d q 2) 1 ≡ false).
      record {
        places = m.places;
        are = LlqPlaces.other q m.places (inside q g) (λ z. eqb-false (big_endian d q 2) 1 e (big-two d q ∙ z)) rest;
        read = one-other k q g e ∙ m.read;
      })
      (test (eqb (big_endian d q 2) 1)))
      h

  fields : (p : ℕ) → OptionRead d p (llq_at d (p + 4))
  unfolding llq_at
  fields p =
      record {
        version = big-two d (p + 4);
        opcode = big-two d (p + 4 + 2) ∙ ap (λ (x : ℕ). two_bytes d x) (omega arith);
        error = big-two d (p + 4 + 4) ∙ ap (λ (x : ℕ). two_bytes d x) (omega arith);
        number = ap (λ (x : ℕ). big_endian d x 8) (omega arith);
        lease = ap (λ (x : ℕ). big_endian d x 4) (omega arith);
      }

  -- option i as it is read
  module _ (ps : List ℕ) (r : llq_options d ≡ map (option_at d) ps) where
    start-at : (i : ℕ) → i < length ps → (get_or (llq_options d) i (record { code = 0; start = 0; size = 0 })).start ≡ get_or ps i 0 + 4
    unfolding option_at
    start-at i l = ap (λ (x : List EdnsOption). (get_or x i (record { code = 0; start = 0; size = 0 })).start) r
        ∙ ap (λ (o : EdnsOption). o.start) (get_or-map (option_at d) ps i 0 (record { code = 0; start = 0; size = 0 }) l)

    option-read : (i : ℕ) → i < length ps → OptionRead d (get_or ps i 0) (llq_option d i)
    option-read i l = subst (λ (x : ℕ). OptionRead d (get_or ps i 0) (llq_at d x)) (sym (start-at i l)) (fields (get_or ps i 0))

    abbrev sized : EdnsOption → Bool
    sized o = eqb o.size 18

    size-at : (i : ℕ) → i < length ps → (get_or (llq_options d) i (option_at d 0)).size ≡ two_bytes d (get_or ps i 0 + 2)
    unfolding option_at
    size-at i l = ap (λ (x : List EdnsOption). (get_or x i (option_at d 0)).size) r
        ∙ ap (λ (o : EdnsOption). o.size) (get_or-map (option_at d) ps i 0 (option_at d 0) l)
        ∙ big-two d (get_or ps i 0 + 2)

    as_many : length (llq_options d) ≡ length ps
    as_many = ap length r ∙ length-map (option_at d) ps

    matches : matched d ≡ true → Matching d ps
    unfolding matched
    matches h =
        let a = eqb (length (llq_options d)) (qdcount d) in
        let b = every sized (llq_options d) in
        record {
          count = sym as_many ∙ eqb-true (length (llq_options d)) (qdcount d) (and_left a b h) ∙ big-two d 4;
          sizes = λ i l.
              sym (size-at i l)
              ∙ eqb-true (get_or (llq_options d) i (option_at d 0)).size 18
              (every-at sized (llq_options d) i (option_at d 0) (and_right a b h) (subst (λ (n : ℕ). i < n) (sym as_many) l));
        }

    is-matched : Matching d ps → matched d ≡ true
    unfolding matched
    is-matched m =
        and_both (eqb (length (llq_options d)) (qdcount d)) (every sized (llq_options d))
        (eq-eqb (length (llq_options d)) (qdcount d) (as_many ∙ m.count ∙ sym (big-two d 4)))
        (at_every sized (llq_options d) (option_at d 0)
        (λ i l.
        let k : i < length ps = subst (λ (n : ℕ). i < n) as_many l in
        eq-eqb (get_or (llq_options d) i (option_at d 0)).size 18 (size-at i k ∙ m.sizes i k)))

-- THE CLAIM

not-false : (b : Bool) → (b ≡ false → ⊥) → b ≡ true
not-false true h = refl
not-false false h = absurd (h refl)

pub reads-queries : ReadsQueries
unfolding llq_options
reads-queries d at good s fine =
    let g : good_questions d (qdcount d) ≡ true = not-false (good_questions d (qdcount d)) (λ x. good (bad-questions d x)) in
    let z : at ≡ questions_end d = end_is d at s in
    let f : good_opt d at ≡ true = not-false (good_opt d at) (λ x. fine (bad-opt d at x)) in
    let m = placed d (suc (length d)) (at + 11) (opt-fills d at f) in
    let r : llq_options d ≡ map (option_at d) m.places =
    ap (λ (x : ℕ). keep (llq d) (options_from (suc (length d)) d (x + 11))) (sym z) ∙ m.read in
    record {
      count = big-two d 4;
      behind = sym z;
      questions = λ i p e l st n.
          let b : p ≡ question_start d i = start_is d i p st in
          subst (λ (x : ℕ). QuestionRead d p e (question_at d x)) b
          (question-at d p e (subst (λ (x : ℕ). good_question d x ≡ true) (sym b) (good-at d (qdcount d) i g (rw (big-two d 4) l))) (end-size d p e n));
      places = m.places;
      are = m.are;
      options = option-read d m.places r;
      matching = (matches d m.places r, is-matched d m.places r);
    }
