-- What a chain of builders comes to.
use Rattle.std.proofs.Common.{ap₂, ◌∙◌, ◌||◌, Bool, List, [], ◌∷◌, subst}
use Rattle.std.specs.Prelude.{fold}
use Rattle.std.specs.List.{AllZip}
use Rattle.clap.specs.Built.{AddsInTurn}
use Rattle.clap.specs.Words.{AddsArg, AddsSubcommand, App, Rule, with_rule, with_subcommand}
use Rattle.clap.specs.declared.builder.arg.Arg.{Arg}
use Rattle.clap.specs.declared.builder.command.Command.{Command}
use Rattle.command_line.specs.Commands.{IsArg, IsCommand}

arg_added : (old : Command) (arg : Arg) (new : Command) (a : App) (r : Rule) → AddsArg old arg new → IsCommand a old → IsArg r arg → IsCommand (with_rule a r) new
arg_added old arg new a r adds is rule =
    (adds.shape rule.1 ∙ ap₂ with_rule is.0 rule.0, adds.globals ∙ ap₂ (λ (x y : Bool). x || y) is.1 rule.1)

pub args_added : (old new : Command) (a : App) (rules : List Rule) (args : List Arg) → AddsInTurn AddsArg old args new → IsCommand a old → AllZip IsArg rules args → IsCommand (fold with_rule a rules) new
args_added old new a [] [] adds is all = subst (IsCommand a) adds is
args_added old new a [] (arg ∷ args) adds is all = absurd all
args_added old new a (r ∷ rules) [] adds is all = absurd all
args_added old new a (r ∷ rules) (arg ∷ args) adds is all =
    args_added adds.0 new (with_rule a r) rules args adds.2 (arg_added old arg adds.0 a r adds.1 is all.0) all.1

subcommand_added : (old sub new : Command) (a b : App) → AddsSubcommand old sub new → IsCommand a old → IsCommand b sub → IsCommand (with_subcommand a b.top) new
subcommand_added old sub new a b adds is below =
    (adds.shape below.1 ∙ ap₂ (λ (x y : App). with_subcommand x y.top) is.0 below.0, adds.globals ∙ ap₂ (λ (x y : Bool). x || y) is.1 below.1)

pub subcommands_added : (old new : Command) (a : App) (apps : List App) (subs : List Command) → AddsInTurn AddsSubcommand old subs new → IsCommand a old → AllZip IsCommand apps subs → IsCommand (fold (λ x y. with_subcommand x y.top) a apps) new
subcommands_added old new a [] [] adds is all = subst (IsCommand a) adds is
subcommands_added old new a [] (sub ∷ subs) adds is all = absurd all
subcommands_added old new a (b ∷ apps) [] adds is all = absurd all
subcommands_added old new a (b ∷ apps) (sub ∷ subs) adds is all =
    subcommands_added adds.0 new (with_subcommand a b.top) apps subs adds.2 (subcommand_added old sub adds.0 a b adds.1 is all.0) all.1
