-- What a script's calls are answered, as bytes. Assumes nothing.
use Rattle.std.specs.Prelude.{ℕ, ◌+◌, ◌*◌, ◌%◌, ◌≡◌, List, [], ◌∷◌, ◌++◌, replicate}
use Rattle.model.specs.Numbers.{encode}
use Rattle.claims.specs.Tally.{Call, making, ticking, serving}
use Rattle.claims.specs.Events.{Event, made, ticked, served, number_of, table_of}
use Rattle.claims.specs.Demand3.{count_of}

-- a sum that every byte and its place go into
unfoldable pub sum_from : ℕ → List ℕ → ℕ
sum_from c [] = c
sum_from c (b ∷ s) = sum_from ((c * 257 + b) % 4294967291) s

abbrev pub sum_of : List ℕ → ℕ
sum_of s = sum_from 0 s

-- the whole reply buffer, the bytes beyond the reply too
abbrev pub reply_of : Event → List ℕ
reply_of (made c k after) = []
reply_of (ticked c k freed after) = []
reply_of (served c lent k size after left) = left

-- AN ANSWER: number 4, freed or length 4, the sum of the table after the call 4, the reply buffer
abbrev pub answer_bytes : Event → List ℕ
answer_bytes e = encode ((4, number_of e) ∷ (4, count_of e) ∷ (4, sum_of (table_of e)) ∷ []) ++ reply_of e

-- a reply buffer is lent filled with 0xAA
abbrev pub Filled : Event → Type 0
Filled (made c k after) = Unit {0}
Filled (ticked c k freed after) = Unit {0}
Filled (served c lent k size after left) = lent ≡ replicate c.room 170

abbrev pub AllFilled : List Event → Type 0
AllFilled [] = Unit {0}
AllFilled (e ∷ es) = Filled e × AllFilled es

-- HOW MANY BYTES the answers take
abbrev pub answer_length : Call → ℕ
answer_length (making c) = 12
answer_length (ticking c) = 12
answer_length (serving c) = 12 + c.room

unfoldable pub answers_length : List Call → ℕ
answers_length [] = 0
answers_length (c ∷ cs) = answer_length c + answers_length cs
