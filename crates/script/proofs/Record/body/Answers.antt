-- `Record::body` meets its contract. Assumes nothing.
use Rattle.script.proofs.SpelledLaws.{body-read}
use Rattle.script.proofs.Record.body.Goals as goal

pub returns : goal.returns
returns c = body-read _ _ _ c.next.ensures
