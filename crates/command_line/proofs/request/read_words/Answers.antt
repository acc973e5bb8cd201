use Rattle.std.proofs.Common.{rules, codes, ap, ◌≡◌, ◌∙◌, sym, subst, map, option_map, string_bytes, Option, Some, None, false, List}
use Rattle.clap.specs.Words.{Row, Text, subcommand_of, takes}
use Rattle.command_line.specs.Commands.{program}
use Rattle.command_line.proofs.Plain.{sub, rows_of_two, audit_is, audit_found, audit_taken, made_rows, made_is, made_found, made_taken, make_rows, make_is, make_found, make_taken, history_is, history_found, history_taken, follow_rows, follow_is, follow_found, follow_taken, input_rows, input_is, input_found, input_taken}
use Rattle.command_line.specs.Asked.{IsWholeIn, asked_by, command_of}
use Rattle.command_line.proofs.First.{named}
use Rattle.command_line.proofs.Whole.{asked_whole, only_memory, shown_asked}
use Rattle.command_line.proofs.request.read_words.Goals as goal

pub returns-in-Some-clause-audit : goal.returns-in-Some-clause-audit
returns-in-Some-clause-audit c t e ws p q = c.in-Some.ensures.audit (rows_of_two (sub 0) t e) t (Some e) 1 64 false (c.in-Ok.ensures.matches ∙ (ap (λ (words : List Text). subcommand_of program words) ws ∙ audit_is t e p q)) (audit_found t e)

pub returns-in-Some-clause-audit_made : goal.returns-in-Some-clause-audit_made
returns-in-Some-clause-audit_made c t ws p = c.in-Some.ensures.audit (made_rows t) t None 1 64 false (c.in-Ok.ensures.matches ∙ (ap (λ (words : List Text). subcommand_of program words) ws ∙ made_is t p)) (made_found t)

pub returns-in-Some-clause-make : goal.returns-in-Some-clause-make
returns-in-Some-clause-make c t ws p = c.in-Some.ensures.make (make_rows t) t false (c.in-Ok.ensures.matches ∙ (ap (λ (words : List Text). subcommand_of program words) ws ∙ make_is t p)) (make_found t)

pub returns-in-Some-clause-history : goal.returns-in-Some-clause-history
returns-in-Some-clause-history c t u ws p q = c.in-Some.ensures.history (rows_of_two (sub 2) t u) t u (c.in-Ok.ensures.matches ∙ (ap (λ (words : List Text). subcommand_of program words) ws ∙ history_is t u p q)) (history_found t u)

pub returns-in-Some-clause-follow : goal.returns-in-Some-clause-follow
returns-in-Some-clause-follow c t ws p = c.in-Some.ensures.follow (follow_rows t) t None None None None false (c.in-Ok.ensures.matches ∙ (ap (λ (words : List Text). subcommand_of program words) ws ∙ follow_is t p)) (follow_found t)

pub returns-in-Some-clause-follow_input : goal.returns-in-Some-clause-follow_input
returns-in-Some-clause-follow_input c ws = c.in-Some.ensures.follow input_rows (codes "/dev/stdin") None None None None false (c.in-Ok.ensures.matches ∙ (ap (λ (words : List Text). subcommand_of program words) ws ∙ input_is)) input_found

pub returns-in-Some-clause-first : goal.returns-in-Some-clause-first
returns-in-Some-clause-first c =
    named (map string_bytes c.args.words.now) (command_of (asked_by c.in-Some.request)) c.in-Ok.ensures.kinds (sym (ap (option_map (λ p. p.0)) c.in-Ok.ensures.matches) ∙ c.in-Some.ensures.named) c.in-Some.ensures.some

-- words that write a whole request ask for it
pub returns-in-Some-clause-taken : goal.returns-in-Some-clause-taken
returns-in-Some-clause-taken c taken a writes =
    asked_whole _ _ c.in-Some.ensures.audit c.in-Some.ensures.make c.in-Some.ensures.history c.in-Some.ensures.follow a (subst (λ (found : Option (Text × List Row)). IsWholeIn found a) (sym c.in-Ok.ensures.matches) writes)

-- such words are not refused
pub returns-in-Ok : goal.returns-in-Ok
returns-in-Ok c = record {
  joined = search rules;
  none = search rules;
  first = search rules;
  asked = search rules;
  taken = λ taken a writes.
      let bad : None ≡ Some a = asked_whole _ None c.in-None.ensures.audit c.in-None.ensures.make c.in-None.ensures.history c.in-None.ensures.follow a
      (subst (λ (found : Option (Text × List Row)). IsWholeIn found a) (sym c.in-Ok.ensures.matches) writes) in absurd cc;
  shown = search rules;
  audit = λ t e ws p q.
      let bad = c.in-None.ensures.audit (rows_of_two (sub 0) t e) t (Some e) 1 64 false (c.in-Ok.ensures.matches ∙ (ap (λ (words : List Text). subcommand_of program words) ws ∙ audit_is t e p q)) (audit_found t e) in absurd cc;
  audit_made = λ t ws p.
      let bad = c.in-None.ensures.audit (made_rows t) t None 1 64 false (c.in-Ok.ensures.matches ∙ (ap (λ (words : List Text). subcommand_of program words) ws ∙ made_is t p)) (made_found t) in absurd cc;
  make = λ t ws p.
      let bad = c.in-None.ensures.make (make_rows t) t false (c.in-Ok.ensures.matches ∙ (ap (λ (words : List Text). subcommand_of program words) ws ∙ make_is t p)) (make_found t) in absurd cc;
  history = λ t u ws p q.
      let bad = c.in-None.ensures.history (rows_of_two (sub 2) t u) t u (c.in-Ok.ensures.matches ∙ (ap (λ (words : List Text). subcommand_of program words) ws ∙ history_is t u p q)) (history_found t u) in absurd cc;
  follow = λ t ws p.
      let bad = c.in-None.ensures.follow (follow_rows t) t None None None None false (c.in-Ok.ensures.matches ∙ (ap (λ (words : List Text). subcommand_of program words) ws ∙ follow_is t p)) (follow_found t) in absurd cc;
  follow_input = λ ws.
      let bad = c.in-None.ensures.follow input_rows (codes "/dev/stdin") None None None None false (c.in-Ok.ensures.matches ∙ (ap (λ (words : List Text). subcommand_of program words) ws ∙ input_is)) input_found in absurd cc;
}

-- and clap takes them, but where memory runs out
pub returns : goal.returns
returns c = record {
  joined = search rules;
  none = search rules;
  first = search rules;
  asked = search rules;
  taken = λ taken a writes. let memory = only_memory _ c.in-Err.error c.in-Err.ensures.kinds taken in absurd (search rules);
  shown = shown_asked _ c.in-Err.error c.told_as.result c.in-Err.ensures.kinds (λ memory. search rules) c.told_as.ensures.shown;
  audit = λ t e ws p q. let memory = c.in-Err.ensures.passes (ap (λ (words : List Text). takes program words) ws ∙ audit_taken t e p q) in absurd (search rules);
  audit_made = λ t ws p. let memory = c.in-Err.ensures.passes (ap (λ (words : List Text). takes program words) ws ∙ made_taken t p) in absurd (search rules);
  make = λ t ws p. let memory = c.in-Err.ensures.passes (ap (λ (words : List Text). takes program words) ws ∙ make_taken t p) in absurd (search rules);
  history = λ t u ws p q. let memory = c.in-Err.ensures.passes (ap (λ (words : List Text). takes program words) ws ∙ history_taken t u p q) in absurd (search rules);
  follow = λ t ws p. let memory = c.in-Err.ensures.passes (ap (λ (words : List Text). takes program words) ws ∙ follow_taken t p) in absurd (search rules);
  follow_input = λ ws. let memory = c.in-Err.ensures.passes (ap (λ (words : List Text). takes program words) ws ∙ input_taken) in absurd (search rules);
}
