use Rattle.tuple_text.specs.declared.fault.TupleFault.TheVariants.{Namespace}
use Rattle.tuple_text.proofs.QuotedLemmas.{name_split}
use Rattle.tuple_text.proofs.quoted.plain_name_before.Goals as goal

pub returns-in-Ok-clause-parts : goal.returns-in-Ok-clause-parts
returns-in-Ok-clause-parts c = (name_split c.args.delimiter (Namespace 0) c.args.text.now (c.in-Ok.found.0.now, c.in-Ok.found.1.now) c.in-Ok.ensures).0
