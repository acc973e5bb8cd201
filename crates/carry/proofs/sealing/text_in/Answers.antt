use Rattle.std.proofs.Common.{arith}
use Rattle.std.proofs.lemmas.Str.{utf8_valid_len_le}
use Rattle.carry.proofs.Opened.{text_missing, text_there}
use Rattle.carry.proofs.sealing.text_in.Goals as goal

pub malformed-requires : goal.malformed-requires
malformed-requires c =
    let le = utf8_valid_len_le c.in_ok-body.body.now in
    let e = c.in-Err.ensures.valid_len in
    omega arith

pub returns-in-Ok : goal.returns-in-Ok
returns-in-Ok c = text_there c.args.bytes.now c.in_ok-body.body.now c.in-Ok.text.now c.in_ok-body.ensures c.in-Ok.ensures.cases.0 c.in-Ok.ensures.cases.1

pub returns-in-Err : goal.returns-in-Err
returns-in-Err c =
    let e = c.in-Err.ensures.valid_len in
    text_missing c.args.bytes.now c.in_ok-body.body.now c.valid_up_to.result c.malformed.result c.in_ok-body.ensures c.in-Err.ensures.cases.0 (omega arith) c.malformed.ensures
