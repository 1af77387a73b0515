-- `options::serve_option` meets its contract. Assumes nothing.
use Rattle.std.proofs.Common.{inl, inr}
use Rattle.entries.specs.Asked.{question_asked}
use Rattle.entries.specs.Reads.{sender_of}
use Rattle.options.proofs.OptionLaws as law
use Rattle.options.proofs.serve_option.Goals as goal

pub returns-in-BadVersion : goal.returns-in-BadVersion
returns-in-BadVersion c =
    let a = c.args in
    law.malformed-as (sender_of a.asked.sender) a.r (question_asked a.asked) a.o a.t.now c.requires.0 _ (inl (c.in-BadVersion.ensures, c.served.ensures))

pub returns-in-BadFormat : goal.returns-in-BadFormat
returns-in-BadFormat c =
    let a = c.args in
    law.malformed-as (sender_of a.asked.sender) a.r (question_asked a.asked) a.o a.t.now c.requires.0 _ (inr (c.in-BadFormat.ensures, c.served-in-BadFormat.ensures))

pub returns-in-Setup : goal.returns-in-Setup
returns-in-Setup c =
    let a = c.args in
    law.setup-as (sender_of a.asked.sender) a.r (question_asked a.asked) a.o a.t.now _ _ c.in-Setup.ensures c.serve_setup.ensures

pub returns-in-Response : goal.returns-in-Response
returns-in-Response c =
    let a = c.args in
    law.response-as (sender_of a.asked.sender) a.r (question_asked a.asked) a.o a.t.now _ _ c.in-Response.ensures c.serve_response.ensures

pub returns-in-Refresh : goal.returns-in-Refresh
returns-in-Refresh c =
    let a = c.args in
    law.refresh-as (sender_of a.asked.sender) a.r (question_asked a.asked) a.o a.t.now _ _ c.in-Refresh.ensures c.serve_refresh.ensures
