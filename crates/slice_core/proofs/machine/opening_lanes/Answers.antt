use Rattle.std.proofs.Common.{◌≡◌, ◌∙◌, map, ap, sym, refl, ◌++◌, ◌∷◌, [], ◌+◌, ◌%◌, ◌<◌, List, length, arith, ℕ, rules}
use Rattle.std.specs.declared.collections.VecDeque.{VecDeque}
use Rattle.std.specs.declared.alloc.Global.{Global}
use Rattle.std.proofs.Math.Nat.{mod-lt}
use Rattle.std.proofs.lemmas.List.{length-map}
use Rattle.slice_core.specs.Named.{named_from}
use Rattle.slice_core.specs.Places.{numbers_of}
use Rattle.slice_core.proofs.Tables.{table_push, table_set, table_at, table_length}
use Rattle.slice_core.proofs.MachineLemmas.{numbers_here, numbers_else}
use Rattle.slice_core.proofs.machine.opening_lanes.Goals as goal

pub loop-preserved : goal.loop-preserved
loop-preserved c = table_push (λ (d : VecDeque ℕ Global). d.items) (λ _. []) 0 c.loop.counter c.loop.lanes.items c.push.new.self.items c.new.result c.in_ok-push.ensures.items c.loop.invariant c.new.ensures.items

pub index_mut-requires : goal.index_mut-requires
index_mut-requires c =
    let a = mod-lt c.loop-k.k c.requires in
    let b : length c.loop-k.lanes.items ≡ c.args.count = sym (length-map c.loop-k.lanes.items (λ (d : VecDeque ℕ Global). d.items)) ∙ ap length c.loop-k.invariant ∙ table_length (numbers_of c.loop-k.k c.args.count) c.args.count in
    let e : length c.loop-k.lanes.items ≡ c.loop-k.lanes.len = search rules in
    omega arith

pub loop-k-preserved : goal.loop-k-preserved
loop-k-preserved c =
    let items : VecDeque ℕ Global → List ℕ = λ d. d.items in
    let n = c.args.count in
    let l = c.loop-k.k % n in
    let within : l < n = mod-lt c.loop-k.k c.requires in
    let here = table_at items (numbers_of c.loop-k.k n) n c.loop-k.lanes.items l c.index_mut.result.now c.loop-k.invariant within in
    table_set items (numbers_of c.loop-k.k n) (numbers_of (c.loop-k.k + 1) n) n c.loop-k.lanes.items l c.push_back.new.self c.loop-k.invariant within
    (c.in_ok-push_back.ensures.items ∙ ap (λ (ks : List ℕ). ks ++ c.loop-k.k ∷ []) (ap items c.index_mut.ensures.value ∙ here) ∙ sym (numbers_here c.loop-k.k n l refl))
    (λ k lt other. sym (numbers_else c.loop-k.k n k (λ e. other (sym e))))

pub loop-init : goal.loop-init
loop-init c = ap (map (λ (d : VecDeque ℕ Global). d.items)) c.in_ok-lanes.ensures.items

pub loop-k-init : goal.loop-k-init
loop-k-init c =
    let all : c.loop.counter ≡ c.args.count = omega arith in
    c.loop.invariant ∙ ap (named_from {X = List ℕ} (λ _. []) 0) all
