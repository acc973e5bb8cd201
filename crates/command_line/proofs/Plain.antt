-- What clap's function of the words gives at the plain forms.
use Rattle.std.specs.Prelude.{slice_index_or, ◌≡◌, Bool, true, false, ℕ, Some, None, codes, List, [], ◌∷◌, ◌==◌, ◌&&◌}
use Rattle.std.proofs.Common.{refl, ap, ap₂, ◌∙◌, arith}
use Rattle.clap.specs.Walk.{Row, Text, Rule, Walk, Held, Step, idle, value, word_met, walked, after_step, to_positional, arg_by_index, nothing_held, walk_from, finished, rows_after}
use Rattle.clap.specs.Simple.{subcommand_of, Shape, built}
use Rattle.clap.specs.Takes.{takes, level_passes, walk_passes, word_passes, step_passes, turn_passes, settle_passes, default_passes, is_valid}
use Rattle.std.specs.List.{list_all}
use Rattle.std.proofs.lemmas.Bool.{not-true}
use Rattle.clap.proofs.OnLiterals.{clap_on_literals}
use Rattle.command_line.specs.Commands.{program}
use Rattle.command_line.proofs.Numbers.{one_is_numeral, slice_is_numeral}
use Rattle.command_line.specs.Asked.{is_plain_word, IsAuditFound, IsFollowFound, IsMakeFound, IsHistoryFound}

-- a plain word goes to a positional
met : (c : List Rule) (position : ℕ) (t : Text) (h : Held) → is_plain_word t ≡ true → word_met c [] false idle position t h ≡ (h, value)
met c position [] h p = refl
met c position (x ∷ xs) h p = let f = not-true (x == 45) p in simp f refl

passes : (s : Shape) (t : Text) (h : Held) → is_plain_word t ≡ true → word_passes s [] false idle t h ≡ true
passes s [] h p = refl
passes s (x ∷ xs) h p = let f = not-true (x == 45) p in simp f refl

-- the shape of a subcommand, as built
abbrev pub sub : ℕ → Shape
sub n = slice_index_or (built program).subs n (built program).top

-- between two words, where nothing waits
abbrev at : Held → ℕ → Walk
at h position = record { held = h; waiting = idle; position = position; is_trailing = false; stopped = None }

abbrev placed : Shape → ℕ → Text → Held → Walk
placed s position t h = to_positional s.rules (arg_by_index s.rules position) t (at h position) h

abbrev may_be_placed : Shape → ℕ → Held → Bool
may_be_placed s position h = step_passes s position h value

step : (s : Shape) (position : ℕ) (t : Text) (h : Held) → is_plain_word t ≡ true → walked s.rules [] (at h position) t ≡ placed s position t h
unfolding walked
step s position t h p = ap (λ (m : Held × Step). after_step s.rules t (at h position) m.0 m.1) (met s.rules position t h p)

turn : (s : Shape) (position : ℕ) (t : Text) (h : Held) → is_plain_word t ≡ true → turn_passes s [] (at h position) t ≡ may_be_placed s position h
turn s position t h p = ap₂ (λ (b : Bool) (m : Held × Step). b && step_passes s position m.0 m.1) (passes s t h p) (met s.rules position t h p)

-- what is asked after the words
abbrev ends : Shape → Walk → Bool
ends s w = settle_passes s.rules s.args_override_self w.held && (list_all default_passes s.rules && is_valid s (finished s.rules w.held) false)

abbrev level : Shape → Bool → Bool → Walk → Bool
level s x y w = (x && (y && true)) && ends s w

-- two words that are no options
two_pass : (s : Shape) (t e : Text) → is_plain_word t ≡ true → is_plain_word e ≡ true → placed s 1 t nothing_held ≡ at (placed s 1 t nothing_held).held 2
    → level s (may_be_placed s 1 nothing_held) (may_be_placed s 2 (placed s 1 t nothing_held).held) (placed s 2 e (placed s 1 t nothing_held).held) ≡ true
    → level_passes s [] nothing_held (t ∷ e ∷ []) false ≡ true
unfolding walk_passes
two_pass s t e p q second ok =
    let after = step s 1 t nothing_held p ∙ second in
    let ended = ap (λ (w : Walk). walked s.rules [] w e) after ∙ step s 2 e (placed s 1 t nothing_held).held q in
    let turned = ap (λ (w : Walk). turn_passes s [] w e) after ∙ turn s 2 e (placed s 1 t nothing_held).held q in
    ap (λ (x : Bool). level s x (turn_passes s [] (walked s.rules [] (walk_from nothing_held) t) e) (walked s.rules [] (walked s.rules [] (walk_from nothing_held) t) e)) (turn s 1 t nothing_held p)
    ∙ (ap₂ (λ (y : Bool) (w : Walk). level s (may_be_placed s 1 nothing_held) y w) turned ended ∙ ok)

abbrev pub rows_of_two : Shape → Text → Text → List Row
rows_of_two s t e = finished s.rules (placed s 2 e (placed s 1 t nothing_held).held).held

two_rows : (s : Shape) (t e : Text) → is_plain_word t ≡ true → is_plain_word e ≡ true → placed s 1 t nothing_held ≡ at (placed s 1 t nothing_held).held 2
    → rows_after s.rules [] (t ∷ e ∷ []) ≡ rows_of_two s t e
two_rows s t e p q second =
    let after = step s 1 t nothing_held p ∙ second in
    ap (λ (w : Walk). finished s.rules w.held) (ap (λ (w : Walk). walked s.rules [] w e) after ∙ step s 2 e (placed s 1 t nothing_held).held q)

-- ---- `audit` with two words

below_audit : (t e : Text) → takes program (codes "audit" ∷ t ∷ e ∷ []) ≡ (level_passes (sub 0) [] nothing_held (t ∷ e ∷ []) false && true)
unfolding clap_on_literals
below_audit t e = refl

pub audit_taken : (t e : Text) → is_plain_word t ≡ true → is_plain_word e ≡ true → takes program (codes "audit" ∷ t ∷ e ∷ []) ≡ true
unfolding clap_on_literals
audit_taken t e p q = below_audit t e ∙ ap (λ (b : Bool). b && true) (two_pass (sub 0) t e p q refl refl)

within_audit : (t e : Text) → subcommand_of program (codes "audit" ∷ t ∷ e ∷ []) ≡ Some (codes "audit", rows_after (sub 0).rules [] (t ∷ e ∷ []))
unfolding clap_on_literals
within_audit t e = refl

pub audit_is : (t e : Text) → is_plain_word t ≡ true → is_plain_word e ≡ true → subcommand_of program (codes "audit" ∷ t ∷ e ∷ []) ≡ Some (codes "audit", rows_of_two (sub 0) t e)
audit_is t e p q = within_audit t e ∙ ap (λ (rows : List Row). Some (codes "audit", rows)) (two_rows (sub 0) t e p q refl)

pub audit_found : (t e : Text) → IsAuditFound (rows_of_two (sub 0) t e) t (Some e) 1 64 false
audit_found t e = record {
  trace = refl;
  evidence = refl;
  make = refl;
  workers_given = (record { text = codes "1"; here = refl; numeral = one_is_numeral; value = refl }, omega arith);
  slice_given = (record { text = codes "64"; here = refl; numeral = slice_is_numeral; value = refl }, omega arith);
  early_given = refl;
  fits = λ early. refl;
}

-- ---- `audit` with a word and `--make`

abbrev pub made_rows : Text → List Row
made_rows t = finished (sub 0).rules (walked (sub 0).rules [] (placed (sub 0) 1 t nothing_held) (codes "--make")).held

-- a word that is no option, and then one that is known
then_passes : (s : Shape) (t e : Text) → is_plain_word t ≡ true
    → level s (may_be_placed s 1 nothing_held) (turn_passes s [] (placed s 1 t nothing_held) e) (walked s.rules [] (placed s 1 t nothing_held) e) ≡ true
    → level_passes s [] nothing_held (t ∷ e ∷ []) false ≡ true
unfolding walk_passes
then_passes s t e p ok =
    ap₂ (λ (x : Bool) (w : Walk). level s x (turn_passes s [] w e) (walked s.rules [] w e)) (turn s 1 t nothing_held p) (step s 1 t nothing_held p) ∙ ok

then_rows : (s : Shape) (t e : Text) → is_plain_word t ≡ true
    → rows_after s.rules [] (t ∷ e ∷ []) ≡ finished s.rules (walked s.rules [] (placed s 1 t nothing_held) e).held
then_rows s t e p = ap (λ (w : Walk). finished s.rules (walked s.rules [] w e).held) (step s 1 t nothing_held p)

pub made_taken : (t : Text) → is_plain_word t ≡ true → takes program (codes "audit" ∷ t ∷ codes "--make" ∷ []) ≡ true
unfolding clap_on_literals
made_taken t p = below_audit t (codes "--make") ∙ ap (λ (b : Bool). b && true) (then_passes (sub 0) t (codes "--make") p refl)

pub made_is : (t : Text) → is_plain_word t ≡ true → subcommand_of program (codes "audit" ∷ t ∷ codes "--make" ∷ []) ≡ Some (codes "audit", made_rows t)
made_is t p = within_audit t (codes "--make") ∙ ap (λ (rows : List Row). Some (codes "audit", rows)) (then_rows (sub 0) t (codes "--make") p)

pub made_found : (t : Text) → IsAuditFound (made_rows t) t None 1 64 false
unfolding clap_on_literals
made_found t = record {
  trace = refl;
  evidence = refl;
  make = refl;
  workers_given = (record { text = codes "1"; here = refl; numeral = one_is_numeral; value = refl }, omega arith);
  slice_given = (record { text = codes "64"; here = refl; numeral = slice_is_numeral; value = refl }, omega arith);
  early_given = refl;
  fits = λ early. absurd cc;
}

-- ---- `make` with a word

one_passes : (s : Shape) (t : Text) → is_plain_word t ≡ true
    → ((may_be_placed s 1 nothing_held && true) && ends s (placed s 1 t nothing_held)) ≡ true
    → level_passes s [] nothing_held (t ∷ []) false ≡ true
unfolding walk_passes
one_passes s t p ok =
    ap₂ (λ (x : Bool) (w : Walk). (x && true) && ends s w) (turn s 1 t nothing_held p) (step s 1 t nothing_held p) ∙ ok

abbrev pub make_rows : Text → List Row
make_rows t = finished (sub 1).rules (placed (sub 1) 1 t nothing_held).held

pub make_taken : (t : Text) → is_plain_word t ≡ true → takes program (codes "make" ∷ t ∷ []) ≡ true
unfolding clap_on_literals
make_taken t p = ap (λ (b : Bool). b && true) (one_passes (sub 1) t p refl)

pub make_is : (t : Text) → is_plain_word t ≡ true → subcommand_of program (codes "make" ∷ t ∷ []) ≡ Some (codes "make", make_rows t)
unfolding clap_on_literals
make_is t p = ap (λ (w : Walk). Some (codes "make", finished (sub 1).rules w.held)) (step (sub 1) 1 t nothing_held p)

pub make_found : (t : Text) → IsMakeFound (make_rows t) t false
make_found t = record { trace = refl; list_given = refl }

-- ---- `history` with two words

pub history_taken : (t e : Text) → is_plain_word t ≡ true → is_plain_word e ≡ true → takes program (codes "history" ∷ t ∷ e ∷ []) ≡ true
unfolding clap_on_literals
history_taken t e p q = ap (λ (b : Bool). b && true) (two_pass (sub 2) t e p q refl refl)

pub history_is : (t e : Text) → is_plain_word t ≡ true → is_plain_word e ≡ true → subcommand_of program (codes "history" ∷ t ∷ e ∷ []) ≡ Some (codes "history", rows_of_two (sub 2) t e)
unfolding clap_on_literals
history_is t e p q = ap (λ (rows : List Row). Some (codes "history", rows)) (two_rows (sub 2) t e p q refl)

pub history_found : (t e : Text) → IsHistoryFound (rows_of_two (sub 2) t e) t e
history_found t e = record { trace = refl; tuple = refl }

-- ---- `follow` with a word, and without

abbrev pub follow_rows : Text → List Row
follow_rows t = finished (sub 3).rules (placed (sub 3) 1 t nothing_held).held

pub follow_taken : (t : Text) → is_plain_word t ≡ true → takes program (codes "follow" ∷ t ∷ []) ≡ true
unfolding clap_on_literals
follow_taken t p = ap (λ (b : Bool). b && true) (one_passes (sub 3) t p refl)

pub follow_is : (t : Text) → is_plain_word t ≡ true → subcommand_of program (codes "follow" ∷ t ∷ []) ≡ Some (codes "follow", follow_rows t)
unfolding clap_on_literals
follow_is t p = ap (λ (w : Walk). Some (codes "follow", finished (sub 3).rules w.held)) (step (sub 3) 1 t nothing_held p)

pub follow_found : (t : Text) → IsFollowFound (follow_rows t) t None None None None false
follow_found t = record {
  trace = refl;
  from_given = refl;
  carry_given = refl;
  oldest_given = refl;
  versions_given = refl;
  heartbeat_given = refl;
  fits = λ given. absurd cc;
}

abbrev pub input_rows : List Row
input_rows = finished (sub 3).rules nothing_held

pub input_taken : takes program (codes "follow" ∷ []) ≡ true
unfolding clap_on_literals walk_passes
input_taken = refl

pub input_is : subcommand_of program (codes "follow" ∷ []) ≡ Some (codes "follow", input_rows)
unfolding clap_on_literals
input_is = refl

pub input_found : IsFollowFound input_rows (codes "/dev/stdin") None None None None false
input_found = record {
  trace = refl;
  from_given = refl;
  carry_given = refl;
  oldest_given = refl;
  versions_given = refl;
  heartbeat_given = refl;
  fits = λ given. absurd cc;
}
