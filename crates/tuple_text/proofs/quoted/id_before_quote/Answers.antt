use Rattle.std.proofs.Common.{rules}
use Rattle.tuple_text.proofs.QuotedLemmas.{number_split}
use Rattle.tuple_text.proofs.quoted.id_before_quote.Goals as goal

pub returns : goal.returns
returns c = number_split c.in_ok-id.id c.args.text.now c.in_ok-id.rest.now c.in_ok-strip_prefix.field-0.now c.in_ok-id.ensures.fits c.in_ok-id.ensures.text (search rules)
