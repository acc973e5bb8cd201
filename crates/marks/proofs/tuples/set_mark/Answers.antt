use Rattle.std.proofs.Common.{ℕ, ◌++◌, fold, ap, sym, ◌∙◌}
use Rattle.std.specs.Hash.DefaultHasher.{with_keys, write_word}
use Rattle.std.proofs.lemmas.List.Sums.{fold-append}
use Rattle.tuple_text.specs.Refs.{set_value}
use Rattle.marks.specs.Marks.{set_mark, lengths}
use Rattle.marks.specs.Words.{finished, hash_of, words}
use Rattle.marks.proofs.tuples.set_mark.Goals as goal

pub returns : goal.returns
unfolding set_mark hash_of
returns c =
    let set = set_value c.args.set in
    let first = with_keys (lengths set) 0 in
    let start = c.keyed.ensures ∙ ap (λ (key : ℕ). with_keys key 0) c.lengths.ensures in
    let namespace = c.with_text.ensures ∙ ap (λ s. fold write_word s (words set.namespace)) start in
    let id = c.with_text-2.ensures ∙ ap (λ s. fold write_word s (words set.id)) namespace ∙ sym (fold-append write_word first (words set.namespace) (words set.id)) in
    let relation = c.with_text-3.ensures ∙ ap (λ s. fold write_word s (words set.relation)) id ∙ sym (fold-append write_word first (words set.namespace ++ words set.id) (words set.relation)) in
    c.finish.ensures ∙ ap finished relation
