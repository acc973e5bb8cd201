use Rattle.std.proofs.lemmas.Str.{IsCharBoundary-after_ascii}
use Rattle.tuple_text.proofs.forms.split_around.Goals as goal

pub range_from-requires : goal.range_from-requires
range_from-requires c = λ h. IsCharBoundary-after_ascii c.args.text.now c.args.len c.utf8.text c.requires.within c.requires.ascii
