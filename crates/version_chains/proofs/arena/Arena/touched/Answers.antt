use Rattle.std.proofs.Common.{ℕ, List, refl, ◌≡◌, ◌∙◌, ap, Some, subst, sym, map}
use Rattle.std.specs.Prelude.{slice_get, unwrap_or}
use Rattle.tuple_text.specs.Tuples.{TupleValue}
use Rattle.version_chains.specs.Arena.{Held, latest_of, nobody, touch_of, tuples_of}
use Rattle.version_chains.specs.Commits.{Touch}
use Rattle.version_chains.specs.Given.{newest_of}
use Rattle.version_chains.specs.Rows.{Kept, row_value}
use Rattle.version_chains.specs.declared.node.Node.{Node}
use Rattle.version_chains.proofs.ArenaLemmas.{item_of, touch_at}
use Rattle.marks.proofs.PlacedLemmas.{read_item}
use Rattle.version_chains.proofs.arena.Arena.touched.Goals as goal

shown : (nodes : List Node) (rows : List Kept) (touches : List Touch) (index : ℕ) (n : Node) (row : Kept)
    → map (touch_of (tuples_of rows)) nodes ≡ touches → slice_get nodes index ≡ Some n
    → slice_get rows n.tuple ≡ Some row
    → Some (record { at = n.at; live = n.live; tuple = row.tuple }) ≡ slice_get touches index
shown nodes rows touches index n row view read of_row =
    rw (← view, item_of (touch_of (tuples_of rows)) nodes index n read, item_of (λ (r : Kept). r.tuple) rows n.tuple row of_row) refl

pub returns-clause-value : goal.returns-clause-value
returns-clause-value c =
    let inside = c.self.inside in
    let touch = c.in_ok-touch.touch.now in
    let read = read_item inside.nodes.items c.deref.result.now c.args.index touch c.deref.ensures.value
    c.in_ok-touch.ensures.lookup.3.0 c.in_ok-touch.ensures.lookup.1 in
    shown inside.nodes.items inside.rows c.args.self.now.touches c.args.index touch (row_value c.in_ok-row.row)
    (ap (λ (h : Held). h.touches) c.self.view_is) read (sym c.in_ok-row.ensures)

pub returns-clause-older : goal.returns-clause-older
returns-clause-older c =
    let inside = c.self.inside in
    let touches = map (touch_of (tuples_of inside.rows)) inside.nodes.items in
    let touch = c.in_ok-touch.touch.now in
    let row = row_value c.in_ok-row.row in
    let read = read_item inside.nodes.items c.deref.result.now c.args.index touch c.deref.ensures.value
    c.in_ok-touch.ensures.lookup.3.0 c.in_ok-touch.ensures.lookup.1 in
    let at = touch_at (tuples_of inside.rows) (latest_of inside.rows) inside.named inside.held inside.nodes.items c.self.invariant.0 c.args.index touch read in
    let here : Some at.0 ≡ Some (touch_of (tuples_of inside.rows) touch) = sym at.1 ∙ item_of (touch_of (tuples_of inside.rows)) inside.nodes.items c.args.index touch read in
    let same : at.0 ≡ touch_of (tuples_of inside.rows) touch = cc in
    let tuple : at.0.tuple ≡ row.tuple =
    ap (λ (x : Touch). x.tuple) same
    ∙ ap (λ o. unwrap_or o nobody) (item_of (λ (r : Kept). r.tuple) inside.rows touch.tuple row (sym c.in_ok-row.ensures)) in
    subst (λ (h : Held). touch.older ≡ newest_of row.tuple h.touches c.args.index) c.self.view_is
    (at.4 ∙ ap (λ (t : TupleValue). newest_of t touches c.args.index) tuple)
