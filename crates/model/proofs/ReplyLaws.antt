-- The lengths of a reply's parts. Assumes nothing.
use Prim.Native.Nat.{ℕ, ◌-◌, ◌≤◌}
use native.Mathlib.Omega.{arith}
use mathlib.Core.Path.{◌≡◌}
use mathlib.Core.List.{List}
use lib.ListN.{length}
use Rattle.model.specs.Query.{questions_end}
use Rattle.model.specs.Serve.{Outcome}
use Rattle.model.specs.Reply.{header_bytes, question_bytes, opt_bytes, option_bytes}
use Rattle.model.proofs.NumberLaws.{length-encode, length_part}

pub length-header : (d : List ℕ) → length (header_bytes d) ≡ 12
unfolding header_bytes
length-header d = length-encode _

pub length-questions : (d : List ℕ) → 12 ≤ questions_end d → questions_end d ≤ length d → length (question_bytes d) ≡ questions_end d - 12
length-questions d from within = length_part 12 (questions_end d - 12) d (omega arith)

pub length-opt : (k : ℕ) → length (opt_bytes k) ≡ 11
unfolding opt_bytes
length-opt k = length-encode _

pub length-option : (o : Outcome) → length (option_bytes o) ≡ 22
unfolding option_bytes
length-option o = length-encode _
