-- The log past the whole end is wrong, and the store was opened once more for the name of the file.
use Rattle.std.proofs.Common.{◌≡◌, ◌⊎◌, ◌%◌, ◌/◌, ◌<◌, ℕ, List, Some, None, Ok, Err, refl, sym, ◌∙◌, ap, subst, inl, inr, ⊎_elim, arith}
use Rattle.repl_control.specs.declared.control.TheConstants.{VERSION_1_SIZE}
use Rattle.repl_effects.specs.Counts.{Rose}
use Rattle.repl_disk.specs.Folder.{IfTold}
use Rattle.repl_disk.specs.Runs.{told_so}
use Rattle.repl_disk.specs.State.{DiskState}
use Rattle.repl_lsn.specs.History.{Path}
use Rattle.repl_record.specs.declared.answer.WalkReason.{WalkReason}
use Rattle.repl_exit.specs.declared.damage.DamageReason.{DamageReason}
use Rattle.repl_exit.specs.declared.damage.DamageReason.TheVariants as damage
use Rattle.repl_store.proofs.Mounting.{durable_one}
use Rattle.repl_store.proofs.Refusals.{unrefused}
use Rattle.repl_store.specs.Backing.{Asks}
use Rattle.repl_store.specs.Durable.{Durable, StandsFor, segment_file}
use Rattle.repl_store.specs.Head.{Head, IsMounted}
use Rattle.repl_store.specs.Refusal.{IsOfDisk, IsOfMount, IsRefusal}
use Rattle.repl_store.specs.declared.fault.StoreFault.{StoreFault}
use Rattle.repl_store.specs.declared.fault.StoreFault.TheVariants as fault
use Rattle.repl_admin.proofs.Ending.{damaged_other, failure_told, refused_failed}
use Rattle.repl_admin.specs.Damages.{IsDamageOrFailure, IsDamagedOr, IsToldOf, IsToldOfLog}
use Rattle.repl_admin.specs.declared.tended.Tended.{Tended}
use Rattle.repl_admin.specs.declared.tended.Tended.TheVariants as tended

-- ---- what kind of an end it is

damaged_kind : (name : List ℕ) (place : ℕ) (why : DamageReason) (end : Tended) → IsDamagedOr name place why end → IsDamageOrFailure end
damaged_kind name place why end (inl is) = subst IsDamageOrFailure (sym is) tt
damaged_kind name place why end (inr is) = subst IsDamageOrFailure (sym is) tt

refused_kind : (e : StoreFault) (end : Tended) → IsOfMount e → IsToldOf e end → IsDamageOrFailure end
refused_kind fault.Broken end answer is = absurd answer
refused_kind fault.Exists end answer is = absurd answer
refused_kind (fault.Missing name) end answer is = subst IsDamageOrFailure (sym is) tt
refused_kind (fault.BadControl place) end answer is = damaged_kind _ place damage.Control end is
refused_kind (fault.BadHistory tli wrong) end answer is = damaged_kind _ _ (damage.History wrong) end is
refused_kind (fault.ShortFile name have wanted) end answer is = subst IsDamageOrFailure (sym is) tt
refused_kind fault.DiskFault end answer is = subst IsDamageOrFailure (sym is) tt
refused_kind fault.Memory end answer is = subst IsDamageOrFailure (sym is) tt

-- ---- the store is opened, or refused

-- what is told of the segment with this position, on this path
abbrev NamedOn : ℕ → WalkReason → Tended → Path → Type 0
NamedOn at why end path = IsDamagedOr (segment_file VERSION_1_SIZE path (at / VERSION_1_SIZE)) (at % VERSION_1_SIZE) (damage.Bad why) end

pub named_told : {A : Type 0} (x : A) (h : Head) (path : Path) (at : ℕ) (why : WalkReason) (end : Tended) (old new : DiskState)
    → IfTold old.files (λ folder. (d : Durable) × StandsFor VERSION_1_SIZE folder d × IsMounted h VERSION_1_SIZE d) → path ≡ h.path
    → NamedOn at why end path → Asks {A = A} (Ok x) old new → IsToldOfLog at why end old new
named_told x h path at why end old new mounted same is asks = record {
  named = λ folder d told stands.
      let found = told_so old.files folder (λ f. (y : Durable) × StandsFor VERSION_1_SIZE f y × IsMounted h VERSION_1_SIZE y) told mounted in
      let one : found.0 ≡ d = durable_one VERSION_1_SIZE folder found.0 d found.1 stands in
      inl (subst (NamedOn at why end) (same ∙ found.2.same_path ∙ ap (λ (y : Durable). y.path) one) is);
  kind = damaged_kind _ _ (damage.Bad why) end is;
  only = asks.only;
  failed = λ failed. absurd (damaged_other _ _ (damage.Bad why) end is failed);
  others = inr asks.ok.0;
}

some : 0 < VERSION_1_SIZE
some = omega arith

-- a store that stands is refused for a failure alone
failure_is : (at : ℕ) (why : WalkReason) (path : Path) (e : StoreFault) (end : Tended) (old new : DiskState) → IsOfDisk e → IsToldOf e end
    → (e ≡ fault.DiskFault → Rose old.faults new.faults) → NamedOn at why end path ⊎ ((end ≡ tended.DiskFault) × Rose old.faults new.faults)
failure_is at why path fault.Broken end old new of is rose = absurd of
failure_is at why path fault.Exists end old new of is rose = absurd of
failure_is at why path (fault.Missing name) end old new of is rose = absurd of
failure_is at why path (fault.BadControl place) end old new of is rose = absurd of
failure_is at why path (fault.BadHistory tli wrong) end old new of is rose = absurd of
failure_is at why path (fault.ShortFile name have wanted) end old new of is rose = absurd of
failure_is at why path fault.DiskFault end old new of is rose = inr (is, rose refl)
failure_is at why path fault.Memory end old new of is rose = inl (inr is)

pub unnamed_told : {A : Type 0} (e : StoreFault) (at : ℕ) (why : WalkReason) (end : Tended) (old new : DiskState)
    → IfTold old.files (λ folder. IsRefusal VERSION_1_SIZE folder e) → IsOfMount e → IsToldOf e end → Asks {A = A} (Err e) old new
    → IsToldOfLog at why end old new
unnamed_told e at why end old new refused answer is asks =
    let failed : e ≡ fault.DiskFault → Rose old.faults new.faults ⊎ ((old.files ≡ None) × Rose old.lacks new.lacks) =
    λ same. asks.failed (ap (λ f. Err f) same) in
    record {
      named = λ folder d told stands.
          failure_is at why d.path e end old new
          (unrefused VERSION_1_SIZE folder d some stands e (told_so old.files folder (λ f. IsRefusal VERSION_1_SIZE f e) told refused)) is
          (λ same. ⊎_elim (λ rose. rose) (λ lack. absurd (let both : Some folder ≡ None = sym told ∙ lack.0 in cc)) (failed same));
      kind = refused_kind e end answer is;
      only = asks.only;
      failed = λ ends. ⊎_elim inl (λ lack. inr lack.1) (failed (refused_failed e end answer is ends));
      others = ⊎_elim (λ same. inl (failure_told e end is same)) inr asks.others;
    }
