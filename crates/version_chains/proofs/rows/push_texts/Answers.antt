use Rattle.std.proofs.Common.{◌≡◌, ◌∙◌, ap, sym}
use Rattle.std.specs.Prelude.{string_bytes}
use Rattle.tuple_text.specs.Refs.{user_value}
use Rattle.marks.specs.Marks.{user_mark}
use Rattle.version_chains.specs.Rows.{user_in}
use Rattle.version_chains.proofs.TextLemmas.{goes_on-further, set-kept, span-kept}
use Rattle.version_chains.proofs.rows.push_texts.Goals as goal

pub returns-in_err-user-clause-goes_on : goal.returns-in_err-user-clause-goes_on
returns-in_err-user-clause-goes_on c = goes_on-further _ _ _ c.place_set.ensures.goes_on c.push_user.ensures.goes_on

pub returns-clause-goes_on : goal.returns-clause-goes_on
returns-clause-goes_on c = goes_on-further _ _ _ c.place_set.ensures.goes_on c.push_user.ensures.goes_on

pub returns-clause-row : goal.returns-clause-row
returns-clause-row c =
    let same : c.args.user_mark ≡ user_mark (user_value c.user.result) = c.requires.mark ∙ ap user_mark (sym c.user.ensures.parts) in
    let is = ap (user_in (string_bytes c.push_user.new.text) c.in_ok-user.user) same ∙ c.in_ok-user.ensures.user ∙ c.user.ensures.parts in
    record {
      set = span-kept _ _ c.push_user.ensures.goes_on c.in_ok-set.set c.in_ok-set.ensures.span;
      user = c.in_ok-user.ensures.spans;
      mark = c.requires.mark ∙ ap user_mark (sym is);
    }

pub returns-clause-kept : goal.returns-clause-kept
returns-clause-kept c =
    let same : c.args.user_mark ≡ user_mark (user_value c.user.result) = c.requires.mark ∙ ap user_mark (sym c.user.ensures.parts) in
    let user = ap (user_in (string_bytes c.push_user.new.text) c.in_ok-user.user) same ∙ c.in_ok-user.ensures.user ∙ c.user.ensures.parts in
    let set = set-kept _ _ c.push_user.ensures.goes_on c.in_ok-set.set c.in_ok-set.ensures.span ∙ c.in_ok-set.ensures.set ∙ c.set.ensures.parts in
    λ i. record { tuple = record { set = set i; user = user i }; latest = 0 }
