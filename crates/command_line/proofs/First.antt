-- Words that are taken begin with the command that they enter.
use Rattle.std.specs.Prelude.{slice_index_or, slice_get, ◌≡◌, Bool, true, false, ℕ, Some, None, codes, List, [], ◌∷◌, ◌++◌, Option, ◌==◌, find, is_some, fold, option_map}
use Rattle.std.proofs.Common.{refl, sym, ap, ◌∙◌, subst}
use Rattle.std.specs.Str.{bytes_eq}
use Rattle.clap.specs.Lexer.{long_of, short_of}
use Rattle.std.specs.Option.{option_map_or}
use Rattle.std.specs.Str.{chars}
use Rattle.std.specs.Prelude.{option_and_then}
use Rattle.std.proofs.lemmas.Slice.Eq.{bytes_eq-Decides}
use Rattle.std.proofs.Math.Bool.{or-false}
use Rattle.std.proofs.Common.{◌||◌, if◌then◌else◌, length}
use Rattle.clap.specs.Walk.{Text, Rule, Walk, Held, Names, idle, trailing, walked, answers_to, nothing_held, walk_from, subcommand_met, subcommand_or_other, after_flag, bundle_step, bundle_met, plain, short_or_plain, long_or_other}
use Rattle.clap.specs.Simple.{subcommand_of, Shape, built, label_of, names_of, entered, help_rule, rows_at}
use Rattle.clap.specs.Faults.{fault_of, walk_fault, turn_fault, other_fault, flag_word_fault, step_fault, long_fault, short_fault, bundle_step_fault, bundle_fault, flags_fault}
use Rattle.clap.specs.Kinds.{Kinds, or_else}
use Rattle.clap.proofs.OnLiterals.{clap_on_literals}
use Rattle.command_line.specs.Commands.{program}

-- a walk that stopped stays, and gathers the words
stays : (c : List Rule) (names : Names) (words : List Text) (w : Walk) (p : Text × List Text) → w.stopped ≡ Some p → option_map (λ q. q.0) (fold (walked c names) w words).stopped ≡ Some p.0
unfolding walked
stays c names [] w p e = ap (option_map (λ q. q.0)) e
stays c names (word ∷ rest) w p e = stays c names rest (walked c names w word) (p.0, p.1 ++ word ∷ []) (rw e refl)

first_empty : (a b : Kinds) → or_else a b ≡ [] → a ≡ []
first_empty [] b e = refl
first_empty (k ∷ ks) b e = e

abbrev top : Shape
top = (built program).top

abbrev names : Names
names = names_of (built program)

-- a first word that names no command is refused, or begins a walk with no command
abbrev start : Walk
start = walk_from nothing_held

abbrev rules : List Rule
rules = top.rules

-- a flag that the top has asks for help or for the version, and any other is unknown
long_refused : (help version : Bool) (v : Option Text)
    → long_fault rules false (if help then Some (slice_index_or rules 0 help_rule) else (if version then Some (slice_index_or rules 1 help_rule) else None)) v nothing_held ≡ [] → ⊥
long_refused true version None e = absurd cc
long_refused true version (Some v) e = absurd cc
long_refused false true None e = absurd cc
long_refused false true (Some v) e = absurd cc
long_refused false false v e = absurd cc

short_refused : (help version : Bool) (rest : Text) (onward : Held → Kinds)
    → short_fault rules false (if help then Some (slice_index_or rules 0 help_rule) else (if version then Some (slice_index_or rules 1 help_rule) else None)) rest nothing_held onward ≡ [] → ⊥
short_refused true version rest onward e = absurd cc
short_refused false true rest onward e = absurd cc
short_refused false false rest onward e = absurd cc

char_refused : (w flags : Text) (k : ℕ) (ch : Option ℕ)
    → or_else (bundle_step_fault rules false ch flags 0 nothing_held (flags_fault rules false k))
    (step_fault top 1 (after_flag rules idle w (bundle_step rules ch flags 0 plain nothing_held (bundle_met rules k)).0 (bundle_step rules ch flags 0 plain nothing_held (bundle_met rules k)).1).0
    (after_flag rules idle w (bundle_step rules ch flags 0 plain nothing_held (bundle_met rules k)).0 (bundle_step rules ch flags 0 plain nothing_held (bundle_met rules k)).1).1) ≡ [] → ⊥
char_refused w flags k None e = absurd cc
char_refused w flags k (Some x) e = short_refused ((104 == x) || false) ((86 == x) || false) _ _ (first_empty _ _ e)

short_case : (w : Text) (short : Option Text)
    → or_else (option_map_or (λ flags. bundle_fault rules false flags nothing_held) short [])
    (step_fault top 1 (short_or_plain rules idle w short nothing_held).0 (short_or_plain rules idle w short nothing_held).1) ≡ [] → ⊥
unfolding flags_fault bundle_met
short_case w None e = absurd cc
short_case w (Some []) e = absurd cc
short_case w (Some (f ∷ fs)) e = char_refused w (f ∷ fs) (length fs) (slice_get (chars (f ∷ fs)) 0) e

long_case : (w : Text) (long : Option (Text × Option Text))
    → or_else (flag_word_fault rules false long w nothing_held)
    (step_fault top 1 (long_or_other rules idle w long nothing_held).0 (long_or_other rules idle w long nothing_held).1) ≡ [] → ⊥
long_case w (Some p) e = long_refused (bytes_eq (codes "help") p.0 || false) (bytes_eq (codes "version") p.0 || false) p.1 (first_empty _ _ e)
long_case w None e = short_case w (short_of w) e

-- ---- the words

abbrev name_at : Option Text → Option Text
name_at o = option_and_then (λ m. option_map (λ s. s.name) (find (λ s. answers_to m (label_of s)) (built program).subs)) o

shape_name : (words : List Text) (o : Option Shape) → option_map (λ p. p.0) (option_map (λ s. rows_at s words) o) ≡ option_map (λ s. s.name) o
shape_name words None = refl
shape_name words (Some s) = refl

entered_name : (stop : Option (Text × List Text)) → option_map (λ p. p.0) (entered (built program) stop) ≡ name_at (option_map (λ p. p.0) stop)
entered_name None = refl
entered_name (Some p) = shape_name p.1 (find (λ s. answers_to p.0 (label_of s)) (built program).subs)

-- a command that the first word names is the one that is entered
enters : (word : Text) (rest : List Text) → (walked rules names start word).stopped ≡ Some (word, []) → name_at (Some word) ≡ Some word
    → option_map (λ p. p.0) (subcommand_of program (word ∷ rest)) ≡ Some word
enters word rest stopped named =
    entered_name (fold (walked rules names) (walked rules names start word) rest).stopped
    ∙ (ap name_at (stays rules names rest (walked rules names start word) (word, []) stopped) ∙ named)

-- words that begin with no command
abbrev met_by : Text → Option Text
met_by w = subcommand_met names idle w

plain_turn : (w : Text) (is_dashes : Bool)
    → or_else (if is_dashes then [] else flag_word_fault rules false (long_of w) w nothing_held)
    (step_fault top 1 (if is_dashes then (nothing_held, trailing 1) else long_or_other rules idle w (long_of w) nothing_held).0
    (if is_dashes then (nothing_held, trailing 1) else long_or_other rules idle w (long_of w) nothing_held).1) ≡ [] → is_dashes ≡ true
plain_turn w true e = refl
plain_turn w false e = absurd (long_case w (long_of w) e)

none_turn : (w : Text) (m : Option Text) → m ≡ None → or_else (other_fault top m w nothing_held)
    (step_fault top 1 (subcommand_or_other rules m idle 1 w nothing_held).0 (subcommand_or_other rules m idle 1 w nothing_held).1) ≡ [] → bytes_eq w (45 ∷ 45 ∷ []) ≡ true
none_turn w None is e = plain_turn w (bytes_eq w (45 ∷ 45 ∷ [])) e
none_turn w (Some n) is e = absurd cc

dashes : (rest : List Text) → fault_of program ((45 ∷ 45 ∷ []) ∷ rest) ≡ [] → subcommand_of program ((45 ∷ 45 ∷ []) ∷ rest) ≡ None
unfolding clap_on_literals
dashes [] e = refl
dashes (r ∷ rest) e = absurd cc

walk_part : (w : Text) (rest : List Text) → fault_of program (w ∷ rest) ≡ [] → turn_fault top names start w ≡ []
unfolding walk_fault
walk_part w rest e = first_empty _ _ (first_empty _ _ e)

abbrev met_from : Bool → Bool → Bool → Bool → Bool → Option Text
met_from audit make history follow help = option_map (λ (s : Text × List Text). s.0)
    (if audit then Some (codes "audit", []) else (if make then Some (codes "make", []) else (if history then Some (codes "history", []) else (if follow then Some (codes "follow", []) else (if help then Some (codes "help", []) else None)))))

met_is : (w : Text) → met_by w ≡ met_from (bytes_eq (codes "audit") w || false) (bytes_eq (codes "make") w || false) (bytes_eq (codes "history") w || false) (bytes_eq (codes "follow") w || false) (bytes_eq (codes "help") w || false)
met_is w = refl

same : (a w : Text) → (bytes_eq a w || false) ≡ true → a ≡ w
same a w e = (bytes_eq-Decides a w).0 (sym (or-false _) ∙ e)

none_some : (o : Option Text) → None ≡ o → is_some o ≡ true → ⊥
none_some None a b = absurd cc
none_some (Some x) a b = absurd cc

met_none : (p q r s t : Bool) → p ≡ false → q ≡ false → r ≡ false → s ≡ false → t ≡ false → met_from p q r s t ≡ None
met_none p q r s t a b c d f = rw (a, b, c, d, f) refl

-- Of words that are taken, a command that was entered is the first word.
pub named : (words : List Text) (o : Option Text) → fault_of program words ≡ [] → option_map (λ p. p.0) (subcommand_of program words) ≡ o → is_some o ≡ true → slice_get words 0 ≡ o
unfolding walked
named [] o e s i = absurd (none_some o s i)
named (w ∷ rest) o e s i = go (bytes_eq (codes "audit") w || false) (bytes_eq (codes "make") w || false) (bytes_eq (codes "history") w || false) (bytes_eq (codes "follow") w || false) (bytes_eq (codes "help") w || false) refl refl refl refl refl
  where
    of_literal : (a : Text) → a ≡ w → option_map (λ p. p.0) (subcommand_of program (a ∷ rest)) ≡ Some a → Some w ≡ o
    of_literal a is entered = ap (λ (x : Text). Some x) (sym is) ∙ (sym entered ∙ (ap (λ (x : Text). option_map (λ p. p.0) (subcommand_of program (x ∷ rest))) is ∙ s))

    nothing : (d : Text) → d ≡ w → subcommand_of program (d ∷ rest) ≡ None → Some w ≡ o
    nothing d is none = absurd (none_some o (sym (ap (option_map (λ p. p.0)) none) ∙ (ap (λ (x : Text). option_map (λ p. p.0) (subcommand_of program (x ∷ rest))) is ∙ s)) i)

    go : (audit make history follow help : Bool) → (bytes_eq (codes "audit") w || false) ≡ audit → (bytes_eq (codes "make") w || false) ≡ make → (bytes_eq (codes "history") w || false) ≡ history
        → (bytes_eq (codes "follow") w || false) ≡ follow → (bytes_eq (codes "help") w || false) ≡ help → Some w ≡ o
    go true make history follow help a b c d f = of_literal (codes "audit") (same _ _ a) (enters (codes "audit") rest refl refl)
    go false true history follow help a b c d f = of_literal (codes "make") (same _ _ b) (enters (codes "make") rest refl refl)
    go false false true follow help a b c d f = of_literal (codes "history") (same _ _ c) (enters (codes "history") rest refl refl)
    go false false false true help a b c d f = of_literal (codes "follow") (same _ _ d) (enters (codes "follow") rest refl refl)
    go false false false false true a b c d f = of_literal (codes "help") (same _ _ f) (enters (codes "help") rest refl refl)
    go false false false false false a b c d f =
        let none = met_is w ∙ met_none _ _ _ _ _ a b c d f in
        let is : w ≡ 45 ∷ 45 ∷ [] = (bytes_eq-Decides w (45 ∷ 45 ∷ [])).0 (none_turn w (met_by w) none (walk_part w rest e)) in
        nothing (45 ∷ 45 ∷ []) (sym is) (dashes rest (subst (λ (x : Text). fault_of program (x ∷ rest) ≡ []) is e))
