-- The header's tests are the model's, and each way out of the header's reader tells what it must. Assumes nothing.
use Prim.Native.Nat.{ℕ, ◌%◌, ◌≤◌, ◌<◌}
use mathlib.Core.Path.{◌≡◌, refl, sym, ap, ◌∙◌}
use mathlib.Core.List.{List}
use mathlib.Core.Bool.{Bool, true, false}
use mathlib.Core.Logic.{◌⊎◌, inl, inr}
use lib.ListN.{length}
use borrow.Author.Tests.{lt-ltb, le-ltb}
use Rattle.model.specs.Query.{wrong_size, qdcount, good_header}
use Rattle.model.specs.Calls.{refusal}
use Rattle.model.proofs.QueryLaws.{header-facts}
use Rattle.wire.specs.Records.{header_record}
use Rattle.wire.specs.Read.{read_header}
use Rattle.wire.specs.declared.Cursor.{Cursor}
use Rattle.wire.specs.declared.Header.{Header}
use Rattle.query.specs.Parts.{good_fields, header_refusal, QueryHeaderOf}

pub fields-good : (d : List ℕ) → good_fields (header_record d 0) ≡ good_header d
unfolding good_header
fields-good d = refl

pub badly-sized : (d : List ℕ) → (length d < 12) ⊎ ((12 ≤ length d) × (1472 < length d)) → 3 ≡ header_refusal d
unfolding header_refusal refusal
badly-sized d (inl h) = rw (lt-ltb (length d) 12 h)
badly-sized d (inr (l, h)) = rw (le-ltb (length d) 12 l, lt-ltb 1472 (length d) h)

module _ (d : List ℕ) (lo : 12 ≤ length d) (hi : length d ≤ 1472) (r : Header × Cursor) (re : r ≡ read_header d 0) where
  size : wrong_size d ≡ false
  size = rw (le-ltb (length d) 12 lo, le-ltb 1472 (length d) hi)

  header : (v : Bool) → good_fields r.0 ≡ v → good_header d ≡ v
  header v e = sym (fields-good d) ∙ ap (λ (r : Header × Cursor). good_fields r.0) (sym re) ∙ e

  pub bad : good_fields r.0 ≡ false → 4 ≡ header_refusal d
  unfolding header_refusal refusal
  bad e = rw (size, header false e)

  pub good : good_fields r.0 ≡ true → (n : ℕ) → n ≡ qdcount d
      → (header_refusal d ≡ 0) × QueryHeaderOf d (record { number = r.0.number; desired = r.0.flags % 2; count = n; first = r.1 })
  unfolding header_refusal refusal
  good e n c =
      let f = header-facts d (header true e) in (
        rw (size, header true e),
        record {
          number = ap (λ (r : Header × Cursor). r.0.number.0) re;
          desired = ap (λ (r : Header × Cursor). r.0.flags % 2) re;
          count = c;
          at_least = rw c f.some;
          at_most = rw c f.few;
          first = ap (λ (r : Header × Cursor). r.1.at) re;
          fits = hi;
        },
      )
