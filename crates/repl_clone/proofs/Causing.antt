-- Causes of answers after calls that were done.
use Rattle.std.proofs.Common.{◌≡◌, ◌≢◌, ◌⊎◌, ◌<◌, ◌-◌, ◌^◌, ℕ, min, List, length, Bool, true, false, Option, Some, None, IsSome, is_some, Result, Ok, Err, OnOk, IfErr, refl, sym, ◌∙◌, ap, subst, inl, inr, ⊎_elim, arith}
use Rattle.repl_clone.specs.Causes.{IsDiskFailure, IsFailure, IsOfDisk, IsSourceFailure, IsUncopied, IsUnheard, fault_of, of_history}
use Rattle.repl_clone.specs.declared.fault.CopyFault.{CopyFault}
use Rattle.repl_clone.specs.declared.fault.CopyFault.TheVariants as fault
use Rattle.repl_effects.specs.Counts.{Rose, Stood}
use Rattle.repl_disk.specs.Answers.{Ends, OnlyWhereThere}
use Rattle.repl_disk.specs.Folder.{IfTold, ToldFiles}
use Rattle.repl_disk.specs.State.{DiskState, GoesOn}
use Rattle.repl_disk.specs.declared.disk.DiskError.{DiskError}
use Rattle.repl_disk.specs.declared.disk.DiskError.TheVariants as error
use Rattle.repl_lsn.specs.History.{Path, canonical}
use Rattle.repl_lsn.specs.declared.fault.HistoryFault.{HistoryFault}
use Rattle.repl_lsn.specs.declared.fault.HistoryFault.TheVariants as history
use Rattle.repl_lsn.specs.declared.history.TheConstants.{HISTORY_LIMIT}

pub ok_map : {A : Type 0} (result : Result A CopyFault) (P Q : Type 0) → (P → Q) → OnOk result P → OnOk result Q
ok_map (Ok x) P Q leads h = leads h
ok_map (Err e) P Q leads h = tt

pub any_ok : {A : Type 0} (result : Result A CopyFault) (P : Type 0) → P → OnOk result P
any_ok (Ok x) P h = h
any_ok (Err e) P h = tt

-- ---- which answers there are

pub source_fails : (e : CopyFault) → IsSourceFailure e → IsFailure e
source_fails fault.Exists h = h
source_fails (fault.HistoryTooLong have) h = h
source_fails fault.SourceFault h = tt
source_fails fault.DiskFault h = tt
source_fails fault.Memory h = tt

pub not_of_disk : (e : CopyFault) → IsSourceFailure e → e ≢ fault.DiskFault
not_of_disk fault.Exists h same = h
not_of_disk (fault.HistoryTooLong have) h same = h
not_of_disk fault.SourceFault h same = cc
not_of_disk fault.DiskFault h same = h
not_of_disk fault.Memory h same = cc

pub unheard_fails : (path : Path) (e : CopyFault) → IsUnheard path e → IsUncopied path e
unheard_fails path fault.Exists h = h
unheard_fails path (fault.HistoryTooLong have) h = h
unheard_fails path fault.SourceFault h = tt
unheard_fails path fault.DiskFault h = tt
unheard_fails path fault.Memory h = tt

pub not_of_source : (path : Path) (e : CopyFault) → IsUnheard path e → e ≢ fault.SourceFault
not_of_source path fault.Exists h same = h
not_of_source path (fault.HistoryTooLong have) h same = cc
not_of_source path fault.SourceFault h same = h
not_of_source path fault.DiskFault h same = cc
not_of_source path fault.Memory h same = cc

pub fails : (path : Path) (e : CopyFault) → IsFailure e → IsUncopied path e
fails path fault.Exists h = h
fails path (fault.HistoryTooLong have) h = absurd h
fails path fault.SourceFault h = tt
fails path fault.DiskFault h = tt
fails path fault.Memory h = tt

pub history_refused : (path : Path) (f : HistoryFault)
    → (f ≡ history.Memory) ⊎ ((HISTORY_LIMIT < length (canonical path)) × (f ≡ history.TooLong (min (length (canonical path)) (2 ^ 64 - 1))))
    → IsUnheard path (of_history f)
history_refused path f why =
    let P : HistoryFault → Type 0 = λ x. IsUnheard path (of_history x) in
    ⊎_elim (λ (m : f ≡ history.Memory). subst P (sym m) tt)
    (λ (long : (HISTORY_LIMIT < length (canonical path)) × (f ≡ history.TooLong (min (length (canonical path)) (2 ^ 64 - 1)))).
    subst P (sym long.1) (refl, long.0)) why

pub disk_fails : (path : Path) (e : CopyFault) → IsDiskFailure e → IsUncopied path e
disk_fails path fault.Exists h = h
disk_fails path (fault.HistoryTooLong have) h = absurd h
disk_fails path fault.SourceFault h = tt
disk_fails path fault.DiskFault h = tt
disk_fails path fault.Memory h = tt

pub err_map : {A : Type 0} (result : Result A CopyFault) (P Q : CopyFault → Type 0) → ((e : CopyFault) → P e → Q e) → IfErr result P
    → IfErr result Q
err_map (Ok x) P Q leads h = tt
err_map (Err e) P Q leads h = leads e h

pub disk_not_of_source : (result : Result (Unit {0}) CopyFault) → IfErr result IsDiskFailure → result ≢ Err fault.SourceFault
disk_not_of_source (Ok x) h same = cc
disk_not_of_source (Err fault.Exists) h same = h
disk_not_of_source (Err (fault.HistoryTooLong have)) h same = h
disk_not_of_source (Err fault.SourceFault) h same = h
disk_not_of_source (Err fault.DiskFault) h same = cc
disk_not_of_source (Err fault.Memory) h same = cc

-- a call of the disk is no fault of the source
pub fault_not_of_source : (e : DiskError) → fault_of e ≢ fault.SourceFault
fault_not_of_source error.Missing same = cc
fault_not_of_source error.Failed same = cc
fault_not_of_source error.Memory same = cc

pub apart : {A : Type 0} (e f : CopyFault) → e ≢ f → (let x : Result A CopyFault = Err e in x) ≢ Err f
apart e f differ same = differ (let k : e ≡ f = cc in k)

-- ---- the disk of the copy

none_before : (a b : ToldFiles) → is_some b ≡ is_some a → b ≡ None → a ≡ None
none_before None b same none = refl
none_before (Some f) b same none = let clash : false ≡ true = ap is_some (sym none) ∙ same in absurd cc

-- a call that was not made
pub disk_still : {A : Type 0} (result : Result A CopyFault) (disk : DiskState) → result ≢ Err fault.DiskFault → IsOfDisk result disk disk
disk_still result disk differs = record {
  ok = any_ok result (Stood disk.faults disk.faults × Stood disk.wants disk.wants) (refl, refl);
  failed = λ is. absurd (differs is);
  others = λ other. refl;
}

pub disk_after : {A B : Type 0} (x : B) (result : Result A CopyFault) (old mid new : DiskState) → GoesOn old mid
    → IsOfDisk {A = B} (Ok x) old mid → IsOfDisk result mid new → IsOfDisk result old new
disk_after x result old mid new on first second = record {
  ok = ok_map result (Stood mid.faults new.faults × Stood mid.wants new.wants) (Stood old.faults new.faults × Stood old.wants new.wants)
      (λ both. (both.0 ∙ first.ok.0, both.1 ∙ first.ok.1)) second.ok;
  failed = λ is. ⊎_elim (λ (rose : Rose mid.faults new.faults). inl (let P : ℕ → Type 0 = λ n. Rose n new.faults in subst P first.ok.0 rose))
      (λ (lack : (mid.files ≡ None) × Rose mid.lacks new.lacks). inr (
        none_before old.files mid.files on.tells lack.0,
        omega (arith, lack.1, on.lacks),
      ))
      (second.failed is);
  others = λ differs. second.others differs ∙ first.ok.0;
}

-- a file that is there, and that is missing, is not told
missing_untold : (told : ToldFiles) (name : List ℕ) → IfTold told (λ folder. IsSome (folder name)) → IfTold told (λ folder. folder name ≡ None)
    → told ≡ None
missing_untold None name there missing = refl
missing_untold (Some folder) name there missing =
    let none : IsSome (let x : Option (List ℕ) = None in x) = subst (λ (f : Option (List ℕ)). IsSome f) missing there in absurd (let k = none in cc)

-- a sync of a file that was written is refused
pub sync_refused : (e : DiskError) (name synced : List ℕ) (old new : DiskState) → name ≡ synced → IfTold old.files (λ folder. IsSome (folder name))
    → OnlyWhereThere {A = Unit {0}} old.files synced (Err e) → Ends {A = Unit {0}} (Err e) old new
    → IsOfDisk {A = Unit {0}} (Err (fault_of e)) old new
sync_refused error.Missing name synced old new same there missing ends = record {
  ok = tt;
  failed = λ is. inr (
    missing_untold old.files synced (subst (λ (n : List ℕ). IfTold old.files (λ folder. IsSome (folder n))) same there) missing,
    ends.lacks,
  );
  others = λ differs. absurd (differs refl);
}
sync_refused error.Failed name synced old new same there missing ends = record {
  ok = tt;
  failed = λ is. inl ends.faults;
  others = λ differs. absurd (differs refl);
}
sync_refused error.Memory name synced old new same there missing ends = record { ok = tt; failed = λ is. absurd cc; others = λ differs. ends.faults }
