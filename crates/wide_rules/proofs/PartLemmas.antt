-- The parts of a rule by their numbers, and what is kept of each.
use Rattle.std.proofs.Common.{◌≡◌, ◌≤◌, ℕ, List, Option, None, Some, length, option_map, refl, sym, ◌∙◌, ap, subst, inl, inr, Bool, true, false, not, IsTrue, ◌↔◌}
use Rattle.std.proofs.lemmas.Option.{slice_get-map, slice_get_past}
use Rattle.std.specs.Prelude.{slice_get, slice_set, unwrap_or}
use Rattle.std.specs.declared.alloc.Global.{Global}
use Rattle.std.specs.declared.boxed.Box.{Box}
use Rattle.rewrites.specs.Expression.{Expression, union, no_child}
use Rattle.rewrites.specs.Parts.{part_at, part_expression, parts_shown}
use Rattle.rewrites.specs.declared.parts.Part.{Part}
use Rattle.rewrites.specs.declared.parts.Through.{Through}
use Rattle.marks.proofs.PlacedLemmas.{length-set, slice_get-set}
use Rattle.snapshots.specs.Timelines.{TimelineValue}
use Rattle.wide_rules.specs.AskedFact.{DoesFor}
use Rattle.wide_rules.specs.Kept.{AreKeptByPart, MayBeKept}
use Rattle.judgement.specs.declared.asked.AskedFact.{AskedFact}
use Rattle.wide_rules.specs.declared.kept.Kept.{Kept}

pub part_there : (ps : List Part) (n : ℕ) (p : Part) → slice_get ps n ≡ Some p → part_at (parts_shown ps) n ≡ part_expression p
part_there ps n p h = ap (λ (o : Option Expression). unwrap_or o (union no_child)) (slice_get-map part_expression ps n ∙ ap (option_map part_expression) h)

pub no_part_there : (ps : List Part) (n : ℕ) → length ps ≤ n → part_at (parts_shown ps) n ≡ union no_child
no_part_there ps n past =
    ap (λ (o : Option Expression). unwrap_or o (union no_child)) (slice_get-map part_expression ps n ∙ ap (option_map part_expression) (slice_get_past ps n past))

pub none_kept : (timeline : TimelineValue) (parts : List Part) (kept : List (Option (Box Kept Global))) → length kept ≡ length parts
    → ((k : ℕ) (one : Option (Box Kept Global)) → slice_get kept k ≡ Some one → one ≡ None) → AreKeptByPart timeline parts kept
none_kept timeline parts kept room none = record {
  room = room;
  each = λ k through one at there numbers is. let bad : None ≡ Some numbers = sym (none k one there) ∙ is in cc;
}

-- it is kept of one part
pub one_kept : (timeline : TimelineValue) (parts : List Part) (kept : List (Option (Box Kept Global))) (n : ℕ) (through : Through) (one : Option (Box Kept Global))
    → AreKeptByPart timeline parts kept → slice_get parts n ≡ Some (Part.Through through) → MayBeKept timeline through one → AreKeptByPart timeline parts (slice_set kept n one)
one_kept timeline parts kept n through one are at is = record {
  room = length-set kept n one ∙ are.room;
  each = λ k t o there within.
      elim (slice_get-set kept n k o one within) [
        | inl here ↦
            let same : Some (Part.Through t) ≡ Some (Part.Through through) = sym there ∙ ap (slice_get parts) here.0 ∙ at in
            let through_is : through ≡ t = cc in
            subst (MayBeKept timeline t) here.1 (subst (λ (x : Through). MayBeKept timeline x one) through_is is)
        | inr other ↦ are.each k t o there other.1
      ];
}

-- a union of nothing gives nothing, and rules out each fact
pub none_does : {F : Type 0} (a : AskedFact F) (g : Bool) → (IsTrue (not g) ↔ DoesFor a g (union no_child))
none_does a true = (λ h. absurd cc, λ h. absurd h)
none_does a false = (λ h. tt, λ h. refl)
