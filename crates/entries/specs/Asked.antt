-- What an option is looked up by, as the model has it. Assumes nothing.
use Rattle.std.specs.Prelude.{Bool}
use Rattle.model.specs.Query as query
use Rattle.model.specs.Rules.{Holding, asks}
use Rattle.wire.specs.Records.{question_of}
use Rattle.entries.specs.declared.asked.Asked.{Asked}
use Rattle.entries.specs.Reads.{sender_of}

-- the question that lies in the datagram
abbrev pub question_asked : Asked → query.Question
question_asked a = question_of a.datagram.now a.question

-- a holding is of the sender and asks the question
abbrev pub asked_by : Asked → Holding → Bool
asked_by a = asks (sender_of a.sender).address a.sender.port (question_asked a)
