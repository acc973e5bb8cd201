-- A carry that was read, and the run behind it.
use Rattle.std.proofs.Common.{◌≡◌, ◌≢◌, ◌<◌, ℕ, List, [], ◌∷◌, Result, Ok, Err, arith, length, length-append, refl, sym, subst}
use Rattle.std.specs.Prelude.{IfErr}
use Rattle.devices.proofs.Given.{of_input-whole, of_whole-map}
use Rattle.json_lines.specs.declared.reading.TheConstants.{MAX_INPUT}
use Rattle.runs.specs.Kept.{KeptValue, log_behind}
use Rattle.audit.specs.Devices.{Reader, Reading, Writing, OfBytes, OfInput, OfWhole, GivesFew, GivesNext, ReaderFailed, ReaderNeverFailed}
use Rattle.audit.specs.Kinds.{IsOneOf}
use Rattle.audit.specs.Kinds as kind
use Rattle.audit.specs.declared.plain.AuditFault.{AuditFault}
use Rattle.carry_laws.specs.declared.known.Known.{Known}
use Rattle.follow.specs.Carried.{IsBegunBy, IsCarryRead, Refuses, RunsBehind, answered}
use Rattle.follow.specs.Handing.{RunEnds, RunWentOut}
use Rattle.follow.specs.Running.{Run}
use Rattle.follow.specs.declared.carried.CarryRefusal.{CarryRefusal}
use Rattle.follow.specs.declared.carried.CarryRefusal.TheVariants as refusal
use Rattle.follow.specs.declared.carried.RunFault.TheVariants as fault
use Rattle.follow.specs.declared.handing.RunEnd.{RunEnd}

module _ {V : Type 0} (begun : V → KeptValue × Known) (carry : Reading) (most : GivesFew carry) (known : GivesNext carry) where
  pub read_failed : ReaderFailed carry → IsCarryRead begun carry (Err refusal.Read)
  read_failed failed = record {
    given = tt;
    refused = (most.0, most.1, λ rest ended. tt);
    most = most;
    known = known;
    failed = λ is. failed;
    kept = λ other. absurd (other refl);
  }

  module _ (never : ReaderNeverFailed carry) where
    refused_so : (f : CarryRefusal) → f ≢ refusal.Read → OfInput carry (λ bytes. Refuses bytes f)
        → IsCarryRead begun carry (Err f)
    refused_so f other refused = record {
      given = tt;
      refused = refused;
      most = most;
      known = known;
      failed = λ is. absurd (other (cc (is)));
      kept = λ no. never;
    }

    pub read_too_long : OfBytes carry (λ came. MAX_INPUT < length came) → IsCarryRead begun carry (Err refusal.TooLong)
    read_too_long long =
        refused_so refusal.TooLong (λ is. cc)
        (long.0, long.1, λ rest ended. omega (arith, length-append long.0 rest, long.2))

    pub read_no_memory : IsCarryRead begun carry (Err refusal.OutOfMemory)
    read_no_memory = refused_so refusal.OutOfMemory (λ is. cc) (most.0, most.1, λ rest ended. tt)

    module _ (bytes : List ℕ) (whole : OfWhole carry (λ a. bytes ≡ a)) where
      pub read_refused : (f : CarryRefusal) → f ≢ refusal.Read → Refuses bytes f → IsCarryRead begun carry (Err f)
      read_refused f other refuses =
          refused_so f other
          (of_input-whole (λ (s : Reader). s.given) (λ (s : Reader). s.ends) carry.before carry.after (λ b. Refuses b f)
          (of_whole-map (λ (s : Reader). s.given) (λ (s : Reader). s.ends) carry.before carry.after (λ a. bytes ≡ a)
          (λ b. Refuses b f) (λ a is. subst (λ (b : List ℕ). Refuses b f) is refuses) whole))

      pub read_begun : (v : V) → IsBegunBy bytes (begun v).0 (begun v).1 → IsCarryRead begun carry (Ok v)
      read_begun v is = record {
        given = of_whole-map (λ (s : Reader). s.given) (λ (s : Reader). s.ends) carry.before carry.after (λ a. bytes ≡ a)
            (λ b. IsBegunBy b (begun v).0 (begun v).1)
            (λ a same. subst (λ (b : List ℕ). IsBegunBy b (begun v).0 (begun v).1) same is) whole;
        refused = tt;
        most = most;
        known = known;
        failed = λ no. absurd (cc (no));
        kept = λ other. never;
      }

-- ---- the run behind it

no_answer : {X : Type 0} (f : CarryRefusal) (r : Result RunEnd AuditFault) → Err (fault.Carry f) ≡ answered r → X
no_answer f (Ok end) is = absurd (cc (is))
no_answer f (Err e) is = absurd (cc (is))

answered_alike : (q r : Result RunEnd AuditFault) → answered q ≡ answered r → q ≡ r
answered_alike (Ok a) (Ok b) is = let same : a ≡ b = cc (is) in cc (same)
answered_alike (Ok a) (Err e) is = absurd (cc (is))
answered_alike (Err d) (Ok b) is = absurd (cc (is))
answered_alike (Err d) (Err e) is = let same : d ≡ e = cc (is) in cc (same)

run_fault : (q : Result RunEnd AuditFault) (e : AuditFault) → answered q ≡ Err (fault.Run e) → q ≡ Err e
run_fault q e is = answered_alike q (Err e) is

not_of_carry : {X : Type 0} (q : Result RunEnd AuditFault) (f : CarryRefusal) → answered q ≡ Err (fault.Carry f) → X
not_of_carry q f is = no_answer f q (sym is)

module _ {V : Type 0} (begun : V → KeptValue × Known) (carry trace : Reading) (out : Writing) where
  pub behind_refused : (f : CarryRefusal) → IsCarryRead begun carry (Err f) → trace.after ≡ trace.before
      → out.after ≡ out.before → RunsBehind carry trace out (Err (fault.Carry f))
  behind_refused f read untouched unsent = record {
    run = λ r is. no_answer f r is;
    kinds = λ e is. absurd (cc (is));
    refused = λ g is.
        let same : f ≡ g = cc (is) in
        (subst (λ (h : CarryRefusal). OfInput carry (λ bytes. Refuses bytes h)) same read.refused, untouched, unsent);
    most = read.most;
    known = read.known;
    failed = λ is. read.failed (let same : f ≡ refusal.Read = cc (is) in cc (same));
    kept = λ other. read.kept (λ is. other (let same : f ≡ refusal.Read = cc (is) in cc (same)));
  }

  pub behind_ran : (v : V) → IsCarryRead begun carry (Ok v) → (q : Result RunEnd AuditFault)
      → Run (log_behind (begun v).0) (RunEnds (begun v).0 (begun v).1) (RunWentOut (begun v).0 (begun v).1) trace out q
      → IfErr q (IsOneOf (kind.trace ∷ kind.write ∷ kind.memory ∷ [])) → RunsBehind carry trace out (answered q)
  behind_ran v read q run kinds = record {
    run = λ r is.
        of_whole-map (λ (s : Reader). s.given) (λ (s : Reader). s.ends) carry.before carry.after
        (λ b. IsBegunBy b (begun v).0 (begun v).1)
        (λ b. (k : KeptValue) × (known : Known) × IsBegunBy b k known × Run (log_behind k) (RunEnds k known) (RunWentOut k known) trace out r)
        (λ b so. (
          (begun v).0,
          (begun v).1,
          so,
          subst (Run (log_behind (begun v).0) (RunEnds (begun v).0 (begun v).1)
              (RunWentOut (begun v).0 (begun v).1) trace out) (answered_alike q r is) run,
        )) read.given;
    kinds = λ e is. subst (λ (r : Result RunEnd AuditFault). IfErr r (IsOneOf (kind.trace ∷ kind.write ∷ kind.memory ∷ [])))
        (run_fault q e is) kinds;
    refused = λ f is. not_of_carry q f is;
    most = read.most;
    known = read.known;
    failed = λ is. not_of_carry q refusal.Read is;
    kept = λ other. read.kept (λ is. absurd (cc (is)));
  }
