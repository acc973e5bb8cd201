use Rattle.std.proofs.Common.{ap, ◌∙◌, map, string_bytes, subst}
use Rattle.std.proofs.lemmas.Result.{IfErr-weaker, IfOk-weaker}
use Rattle.clap.specs.Words.{App, FailsBy, fault_of, is_simple, is_simple_and_free, subcommand_of, takes}
use Rattle.command_line.proofs.request.parse.Goals as goal

pub returns-clause-matches : goal.returns-clause-matches
returns-clause-matches c =
    let is = c.in_ok-program.ensures.0 in
    let parse = c.try_get_matches_from in
    IfOk-weaker parse.result _ _ (λ m h. (h (ap is_simple is)).1 ∙ ap (λ (a : App). subcommand_of a (map string_bytes c.args.words.now)) is) parse.ensures.matches

pub returns-clause-passes : goal.returns-clause-passes
returns-clause-passes c =
    let is = c.in_ok-program.ensures.0 in
    let parse = c.try_get_matches_from in
    IfErr-weaker parse.result _ _ (λ e h t. h (ap (λ (a : App). takes a (map string_bytes c.args.words.now)) is ∙ t)) parse.ensures.passes

pub returns-clause-kinds : goal.returns-clause-kinds
returns-clause-kinds c =
    let is = c.in_ok-program.ensures.0 in
    let parse = c.try_get_matches_from in
    subst (λ (a : App). FailsBy (fault_of a (map string_bytes c.args.words.now)) parse.result) is (parse.ensures.kinds (ap is_simple_and_free is))
