-- What a run says, from what its command does.
use Rattle.std.proofs.Common.{◌≡◌, ◌⊎◌, inl, inr, ℕ, ◌+◌, ◌<◌, ◌≤◌, true, List, [], ◌∷◌, Option, Some, None, codes, refl, sym, subst, map, ◌∙◌, arith, false, Global}
use Rattle.std.specs.Prelude.{IfSome, slice_get, String, string_bytes, ◌++◌}
use Rattle.std.proofs.lemmas.Bool.{true≢false}
use Rattle.audit.specs.Devices.{Reader, Reading, Writer, Writing, ReaderFailed, WriterFailed, WriterNeverFailed, StandsBehind}
use Rattle.audit.proofs.Readers.{few_at_rest, next_at_rest}
use Rattle.command_line.specs.Asked.{AreTaken, AskForHelp, Asked, IsAskedBy, Write, command_of, is_plain_word}
use Rattle.command_line.specs.Asked as asked
use Rattle.new_enemy.specs.Outcomes.{HasSucceeded, HasFoundDirty, HasRefused}
use Rattle.new_enemy.specs.Runs.{RunsJoined, RunsFiles, SaysOfRun}
use Rattle.new_enemy.specs.Words.{HasRead, is_shown, IsAsked, IsOfCommand, RanAsked}
use Rattle.new_enemy.specs.declared.run.Done.{Done}
use Rattle.new_enemy.specs.declared.run.Ran.{Ran}
use Rattle.new_enemy.specs.declared.run.Ran.TheVariants as ran
use Rattle.new_enemy.proofs.FileRuns.{runs_done}

-- what a status says where joined input is told of otherwise
module _ {F : Type 0} {J J' : Type 0} (old new : List ℕ) where
  pub of_joined : (r : Ran F) → (r ≡ ran.Joined → J → J') → HasSucceeded J old new r → HasSucceeded J' old new r
  of_joined ran.Joined joined h = joined refl h
  of_joined (ran.Audited t e) joined h = h
  of_joined (ran.AuditedAlone t) joined h = h
  of_joined (ran.Made t) joined h = h
  of_joined (ran.Told t) joined h = h
  of_joined (ran.Followed t) joined h = h
  of_joined (ran.WentOn t from to) joined h = h
  of_joined (ran.Shown text) joined h = h
  of_joined ran.Nothing joined h = h

  pub dirty_joined : (r : Ran F) → (r ≡ ran.Joined → J → J') → HasFoundDirty J old new r → HasFoundDirty J' old new r
  dirty_joined ran.Joined joined h = joined refl h
  dirty_joined (ran.Audited t e) joined h = h
  dirty_joined (ran.AuditedAlone t) joined h = h
  dirty_joined (ran.Followed t) joined h = h
  dirty_joined (ran.WentOn t from to) joined h = h
  dirty_joined _ joined h = h

  refused_joined : (r : Ran F) → (J → J') → HasRefused J r → HasRefused J' r
  refused_joined ran.Joined joined h = joined h
  refused_joined (ran.Audited t e) joined h = h
  refused_joined (ran.AuditedAlone t) joined h = h
  refused_joined (ran.Made t) joined h = h
  refused_joined (ran.Told t) joined h = h
  refused_joined (ran.Followed t) joined h = h
  refused_joined (ran.WentOn t from to) joined h = h
  refused_joined (ran.Shown text) joined h = h
  refused_joined ran.Nothing joined h = h

pub says_of_joined : {F : Type 0} (input : Reading) (out : Writing) (s : ℕ) → RunsJoined input out s
    → SaysOfRun {F = F} input out s ran.Joined
says_of_joined input out s h =
    record {
      clean = h.clean;
      dirty = h.dirty;
      flushed = λ one _. h.flushed one;
      refused = h.refused;
      used = h.statuses.1;
      left_out = λ six. absurd (omega (arith, six, h.statuses.0));
      device = λ five opened. of_device (h.device five);
      kept = λ other. let none = h.kept other in (none.0, refl, none.1);
      unwritten = λ two four _. h.unwritten two four;
      most = (h.most, tt);
      known = h.known;
      held = h.held;
      statuses = omega (arith, h.statuses.0);
    }
  where
    of_device : ReaderFailed input ⊎ WriterFailed out → (ReaderFailed input ⊎ (0 < 0)) ⊎ WriterFailed out
    of_device (inl failed) = inl (inl failed)
    of_device (inr failed) = inr failed

module _ {F : Type 0} (r : Reader) where
  pub says_of_files : (word : List ℕ) (out : Writing) (s : ℕ) (run : Ran F) → RunsFiles word out s run
      → SaysOfRun (record { before = r; after = r }) out s run
  says_of_files word out s run h =
      let old = out.before.taken in
      let new = out.after.taken in
      record {
        clean = λ zero. of_joined old new run (λ is none. absurd none) (h.clean zero);
        dirty = λ one. dirty_joined old new run (λ is none. absurd none) (h.dirty one);
        flushed = h.devices.flushed;
        refused = λ two. refused_joined old new run (λ none. absurd none) (h.refused two);
        used = h.used;
        left_out = h.left_out;
        device = λ five opened. of_device (h.devices.device five opened);
        kept = λ other. let none = h.devices.kept other in (refl, none.0, none.1);
        unwritten = h.devices.unwritten;
        most = (few_at_rest r, h.devices.most);
        known = next_at_rest r;
        held = h.devices.held;
        statuses = h.statuses;
      }
    where
      of_device : {X Y Z : Type 0} → Y ⊎ Z → (X ⊎ Y) ⊎ Z
      of_device (inl failed) = inl (inr failed)
      of_device (inr failed) = inr failed

  -- nothing was read and nothing written
  pub says_of_nothing : (d : Done F) (s : ℕ) (w : Writer) → d ≡ record { status = s; read = ran.Nothing } → 2 ≤ s → s ≤ 5
      → SaysOfRun (record { before = r; after = r }) (record { before = w; after = w }) d.status d.read
  says_of_nothing d s w is two few =
      says_of_files [] (record { before = w; after = w }) d.status d.read (runs_done [] d s w is two few)

  -- the text of help went out
  pub says_of_help : (out : Writing) (text : String Global) → out.after.taken ≡ out.before.taken ++ string_bytes text
      → out.after.flushes ≡ out.before.flushes + 1 → WriterNeverFailed out → StandsBehind out
      → SaysOfRun {F = F} (record { before = r; after = r }) out 0 (ran.Shown text)
  says_of_help out text all flushed sent held =
      record {
        clean = λ _. all;
        dirty = λ one. absurd (omega (arith, one));
        flushed = λ _ _. flushed;
        refused = λ two. absurd (omega (arith, two));
        used = λ three. absurd (omega (arith, three));
        left_out = λ six. absurd (omega (arith, six));
        device = λ five opened. absurd (omega (arith, five));
        kept = λ other. (refl, refl, sent);
        unwritten = λ two. absurd (omega (arith, two));
        most = (few_at_rest r, tt);
        known = next_at_rest r;
        held = held;
        statuses = omega arith;
      }

  -- or the writer stopped it
  stopped : (out : Writing) → StandsBehind out → SaysOfRun {F = F} (record { before = r; after = r }) out 5 ran.Nothing
  stopped out held =
      record {
        clean = λ zero. absurd (omega (arith, zero));
        dirty = λ one. absurd (omega (arith, one));
        flushed = λ one. absurd (omega (arith, one));
        refused = λ _. tt;
        used = λ _. tt;
        left_out = λ six. absurd (omega (arith, six));
        device = λ is opened. absurd (true≢false (sym opened));
        kept = λ other. absurd (other refl);
        unwritten = λ two four. absurd (omega (arith, four));
        most = (few_at_rest r, tt);
        known = next_at_rest r;
        held = held;
        statuses = omega arith;
      }

  pub says_of_stopped : (d : Done F) (out : Writing) → d ≡ record { status = 5; read = ran.Nothing } → StandsBehind out
      → SaysOfRun (record { before = r; after = r }) out d.status d.read
  says_of_stopped d out is held =
      subst (λ (x : Done F). SaysOfRun (record { before = r; after = r }) out x.status x.read) (sym is) (stopped out held)

-- ---- what was asked for

-- only the request for joined input runs so
joined_is_asked : {F : Type 0} (a : Asked) (old new : List ℕ) (s : ℕ) (run : Ran F) → RanAsked a old new s run
    → run ≡ ran.Joined → command_of a ≡ None
joined_is_asked asked.joined old new s run h is = refl
joined_is_asked (asked.audits t (Some e) w n early) old new s ran.Joined h is = absurd h
joined_is_asked (asked.audits t None w n early) old new s ran.Joined h is = absurd h
joined_is_asked (asked.makes t list) old new s ran.Joined h is = absurd h
joined_is_asked (asked.tells t u) old new s ran.Joined h is = absurd h.2
joined_is_asked (asked.follows t (Some f) carry oldest versions heartbeat) old new s ran.Joined h is = absurd h
joined_is_asked (asked.follows t None (Some c) oldest versions heartbeat) old new s ran.Joined h is = absurd h
joined_is_asked (asked.follows t None None oldest versions heartbeat) old new s ran.Joined h is = absurd h
joined_is_asked _ old new s run h is = absurd (cc (is))

module _ {F : Type 0} (old new : List ℕ) (s : ℕ) (run : Ran F) where
  joined_run : (word : Option (List ℕ)) (o : Option Asked) → IfSome o (λ a. word ≡ command_of a)
      → IfSome o (λ a. RanAsked a old new s run) → (o ≡ None → ¬ HasRead run) → run ≡ ran.Joined → word ≡ None
  joined_run word (Some a) names by none is = names ∙ joined_is_asked a old new s run by is
  joined_run word None names by none is = absurd (none refl (subst HasRead (sym is) tt))

  named_run : (word : Option (List ℕ)) (o : Option Asked) → IfSome o (λ a. word ≡ command_of a)
      → IfSome o (λ a. IsOfCommand (command_of a) run) → (o ≡ None → ¬ HasRead run) → IsOfCommand word run
  named_run word (Some a) names by none = subst (λ (w : Option (List ℕ)). IsOfCommand w run) (sym names) by
  named_run word None names by none = of_none run (none refl)
    where
      of_none : (r : Ran F) → ¬ HasRead r → IsOfCommand word r
      of_none (ran.Shown text) unread = tt
      of_none ran.Nothing unread = tt
      of_none ran.Joined unread = absurd (unread tt)
      of_none (ran.Audited t e) unread = absurd (unread tt)
      of_none (ran.AuditedAlone t) unread = absurd (unread tt)
      of_none (ran.Made t) unread = absurd (unread tt)
      of_none (ran.Told t) unread = absurd (unread tt)
      of_none (ran.Followed t) unread = absurd (unread tt)
      of_none (ran.WentOn t from to) unread = absurd (unread tt)

  -- where something was read, words that ask for it are found
  found_asked : (words : List (List ℕ)) (o : Option Asked) → IfSome o (IsAskedBy words)
      → IfSome o (λ a. RanAsked a old new s run) → (o ≡ None → ¬ HasRead run) → HasRead run
      → (a : Asked) × IsAskedBy words a × RanAsked a old new s run
  found_asked words (Some a) asks by none read = (a, asks, by)
  found_asked words None asks by none read = absurd (none refl read)

  -- what holds of what is asked for
  asked_is : (o : Option Asked) (a : Asked) (P : Asked → Type 0) → o ≡ Some a → IfSome o P → P a
  asked_is o a P is h = subst (λ (x : Option Asked). IfSome x P) is h

  module _ (o : Option Asked) (by : IfSome o (λ a. RanAsked a old new s run)) (none : o ≡ None → ¬ HasRead run)
    where
      -- a run of joined input has no words
      pub joined_has_no_words : {A : Type 0} (f : A → List ℕ) (ws : List A)
          → IfSome o (λ a. slice_get (map f ws) 0 ≡ command_of a) → run ≡ ran.Joined → ws ≡ []
      joined_has_no_words f [] names is = refl
      joined_has_no_words f (w ∷ ws) names is =
          let no_word : Some (f w) ≡ None = joined_run (slice_get (map f (w ∷ ws)) 0) o names by none is in
          absurd (cc (no_word))

      pub joined_runs : o ≡ Some asked.joined → run ≡ ran.Joined
      joined_runs is = asked_is o asked.joined (λ a. RanAsked a old new s run) is by

      -- the run is what its words ask for
      pub words_asked : (words : List (List ℕ))
          → ((t e : List ℕ) → words ≡ codes "audit" ∷ t ∷ e ∷ [] → is_plain_word t ≡ true → is_plain_word e ≡ true
          → o ≡ Some (asked.audits t (Some e) 1 64 false))
          → ((t : List ℕ) → words ≡ codes "audit" ∷ t ∷ codes "--make" ∷ [] → is_plain_word t ≡ true
          → o ≡ Some (asked.audits t None 1 64 false))
          → ((t : List ℕ) → words ≡ codes "make" ∷ t ∷ [] → is_plain_word t ≡ true → o ≡ Some (asked.makes t false))
          → ((t u : List ℕ) → words ≡ codes "history" ∷ t ∷ u ∷ [] → is_plain_word t ≡ true → is_plain_word u ≡ true
          → o ≡ Some (asked.tells t u))
          → ((t : List ℕ) → words ≡ codes "follow" ∷ t ∷ [] → is_plain_word t ≡ true → o ≡ Some (asked.follows t None None None None false))
          → (words ≡ codes "follow" ∷ [] → o ≡ Some (asked.follows (codes "/dev/stdin") None None None None false))
          → (AreTaken words → (a : Asked) → Write words a → o ≡ Some a)
          → (is_shown run ≡ true → AskForHelp words)
          → IfSome o (λ a. slice_get words 0 ≡ command_of a)
          → IfSome o (IsAskedBy words) → IfSome o (λ a. IsOfCommand (command_of a) run)
          → IsAsked words old new s run
      words_asked words audit audit_made make history follow follow_input taken shown first asks command =
          let P = λ (a : Asked). RanAsked a old new s run in
          record {
            audit = λ t e is p q. asked_is o (asked.audits t (Some e) 1 64 false) P (audit t e is p q) by;
            audit_made = λ t is p. asked_is o (asked.audits t None 1 64 false) P (audit_made t is p) by;
            make = λ t is p. asked_is o (asked.makes t false) P (make t is p) by;
            history = λ t u is p q. asked_is o (asked.tells t u) P (history t u is p q) by;
            follow = λ t is p. asked_is o (asked.follows t None None None None false) P (follow t is p) by;
            follow_input = λ is. asked_is o (asked.follows (codes "/dev/stdin") None None None None false) P (follow_input is) by;
            taken = λ takes a writes. asked_is o a P (taken takes a writes) by;
            shown = shown;
            first = named_run (slice_get words 0) o first command none;
            found = found_asked words o asks by none;
          }
