use Rattle.std.proofs.Common.{◌∙◌, sym, string_bytes}
use Rattle.std.proofs.lemmas.Map.Made.{is_some-lookup}
use Rattle.std.specs.Str.{bytes_eq}
use Rattle.rewrites.proofs.NamedLemmas.{there_named, named_there}
use Rattle.rewrites.proofs.parts.Through.reads.Goals as goal

pub returns : goal.returns
returns c =
    let q = c.args.name.now in
    let es = c.args.self.now.computed.entries in
    let same = c.contains.ensures ∙ is_some-lookup (λ k. bytes_eq q (string_bytes k)) es in
    (λ t. there_named q es (sym same ∙ t), λ there. same ∙ named_there q es there)
