use Rattle.std.proofs.Common.{◌∙◌, ◌++◌, inl, List, ℕ, ap}
use Rattle.new_enemy.proofs.carrying.hand_on_to.Goals as goal

pub returns-in-Ok-send : goal.returns-in-Ok-send
returns-in-Ok-send g c =
    let unused = c.in-Ok.ensures.unread in
    let sent = c.in-Ok-send.ensures in (
      c.in-Ok.ensures.path,
      inl (
        c.status_of_end.ensures,
        (
          c.in-Some.text,
          c.in-Some.is,
          sent.all ∙ ap (λ (l : List ℕ). l ++ c.as_bytes.result.now) unused.0 ∙ c.as_bytes.ensures.value,
          sent.kept.0 ∙ unused.2,
          sent.kept.1 ∙ unused.1,
        ),
      ),
    )
