use Rattle.std.proofs.Common.{◌≡◌, false, rules}
use Rattle.tuple_text.specs.Refs.{set_value}
use Rattle.rewrites.specs.Parts.{computed_names}
use Rattle.wide_rules.proofs.LiveLemmas.{none_shared}
use Rattle.wide_rules.proofs.kept.is_quiet.Goals as goal

pub returns-in-Some : goal.returns-in-Some
returns-in-Some c quiet =
    let s = c.args.snapshot.now in
    let kept = c.args.kept.now in
    let apart : c.meets.result ≡ false = search rules in
    none_shared s (set_value c.args.tupleset.set) (computed_names c.args.through.now) kept.declaring.items
    c.in-Some.stored kept.numbers c.fits.ensures c.requires.declaring c.requires.numbers c.in-Some.ensures (c.meets.ensures apart)
