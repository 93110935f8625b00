-- What a call that was done makes of the files and of what is certain of them, and that it is taken back.
use Rattle.std.proofs.Common.{◌≡◌, ℕ, IsSome, is_some, Bool, true, false, cond, List, [], ◌∷◌, length, Option, Some, None, option_map, refl, sym, ◌∙◌, ap, subst, arith}
use Rattle.std.proofs.lemmas.Slice.Eq.{bytes_eq-Decides}
use Rattle.repl_disk.specs.Calls as done
use Rattle.repl_disk.specs.Calls.{Done, write_of, rename_of, removal_of}
use Rattle.repl_disk.specs.Crash.{Tears, TornFile, Syncs, Moves, Removes}
use Rattle.repl_disk.specs.Files.{Changed, found, folder_of, certain_of, certain_folder, bytes_of, file_after, undo_after}
use Rattle.repl_disk.specs.Folder.{Folder, put, moved, content, written, overwritten}
use Rattle.repl_disk.specs.declared.disk.DiskError.TheVariants as error
use Rattle.std.specs.Prelude.{IfSome}
use Rattle.std.proofs.lemmas.Bool.{false≢true}
use Rattle.repl_disk.specs.Memory.{Held, Did, DidNot, KeepsNoWrite, before, file_before, certain}
use Rattle.repl_disk.specs.Stored.{Cut, Stored, settled, renamed, unwritten_all}
use Rattle.repl_disk.proofs.Folders.{folder_found, certain_found, certain_is, folder_changed, certain_changed}
use Rattle.repl_disk.specs.Steps.{put_at, put_other, put_same, put-put}
use Rattle.repl_disk.proofs.Writes.{length-overwritten, torn, unwritten-overwritten}

-- what is certain is still that of the files
abbrev pub IsTied : Held → Type 0
IsTied held = certain held.calls (folder_of held.files) ≡ certain_folder held.files

-- ---- a write

module _ (f : Option Stored) (name : List ℕ) (at : ℕ) (bytes : List ℕ) where
  taken_back : file_before (undo_after f at bytes) (Some ((file_after f name at bytes).bytes)) ≡ bytes_of f
  taken_back = each f
    where
      each : (f : Option Stored) → file_before (undo_after f at bytes) (Some ((file_after f name at bytes).bytes)) ≡ bytes_of f
      each None = refl
      each (Some file) = ap (λ (l : List ℕ). Some l) (unwritten-overwritten file.bytes at bytes)

  bytes_written : (file_after f name at bytes).bytes ≡ overwritten (content (bytes_of f)) at bytes
  bytes_written = each f
    where
      each : (f : Option Stored) → (file_after f name at bytes).bytes ≡ overwritten (content (bytes_of f)) at bytes
      each None = refl
      each (Some file) = refl

  torn_file : TornFile at (length bytes) (bytes_of f) (Some ((file_after f name at bytes).bytes))
  torn_file = each f
    where
      each : (f : Option Stored) → TornFile at (length bytes) (bytes_of f) (Some ((file_after f name at bytes).bytes))
      each None = omega (arith, length-overwritten [] at bytes)
      each (Some file) = torn file.bytes at bytes

  still_certain : certain_of (file_after f name at bytes) ≡ certain_found f
  still_certain = each f
    where
      of_made : (made : Bool) (file : Stored)
          → cond made None (Some (unwritten_all (file_after (Some file) name at bytes).undos
          (file_after (Some file) name at bytes).bytes)) ≡ cond made None (Some (unwritten_all file.undos file.bytes))
      of_made true file = refl
      of_made false file = ap (λ (l : List ℕ). Some (unwritten_all file.undos l)) (unwritten-overwritten file.bytes at bytes)

      each : (f : Option Stored) → certain_of (file_after f name at bytes) ≡ certain_found f
      each None = refl
      each (Some file) = of_made file.made file

module _ (old new : Held) (name : List ℕ) (at : ℕ) (bytes : List ℕ) where
  abbrev rest : Stored
  rest = file_after (found old.files name) name at bytes

  abbrev undo : Option Cut
  undo = undo_after (found old.files name) at bytes

  abbrev after : Option (List ℕ)
  after = Some rest.bytes

  abbrev pub Change : Type 0
  Change = Changed old.files new.files name (Some rest)

  files_put : Change → folder_of new.files ≡ put (folder_of old.files) name after
  files_put change = folder_changed old.files new.files name (Some rest) change

  write_back : Change → before (write_of old.files name at bytes) (folder_of new.files) ≡ folder_of old.files
  write_back change =
      ap (λ (now : Folder). put now name (file_before undo (now name))) (files_put change)
      ∙ ap (λ (x : Option (List ℕ)). put (put (folder_of old.files) name after) name (file_before undo x))
      (put_at (folder_of old.files) name after)
      ∙ put-put (folder_of old.files) name after (file_before undo after)
      ∙ put_same (folder_of old.files) name (file_before undo after)
      (taken_back (found old.files name) name at bytes ∙ sym (folder_found old.files name))

  files_written : Change → folder_of new.files ≡ written (folder_of old.files) name at bytes
  files_written change =
      files_put change ∙ ap (λ (x : List ℕ). put (folder_of old.files) name (Some x))
      (bytes_written (found old.files name) name at bytes ∙ ap (λ (x : Option (List ℕ)). overwritten (content x) at bytes)
      (sym (folder_found old.files name)))

  tears : Change → Tears name at (length bytes) (folder_of old.files) (folder_of new.files)
  tears change = record {
    others = λ other differ. ap (λ (f : Folder). f other) (files_put change) ∙ put_other (folder_of old.files) name other after differ;
    file = subst (λ (x : Option (List ℕ)). TornFile at (length bytes) (folder_of old.files name) x)
        (sym (ap (λ (f : Folder). f name) (files_put change) ∙ put_at (folder_of old.files) name after))
        (subst (λ (x : Option (List ℕ)). TornFile at (length bytes) x after) (sym (folder_found old.files name))
        (torn_file (found old.files name) name at bytes));
  }

  pub wrote : Change → new.calls ≡ write_of old.files name at bytes ∷ old.calls → Did old new (λ folder. written folder name at bytes) (Tears name at (length bytes))
  wrote change kept = record {
    call = write_of old.files name at bytes;
    kept = kept;
    files = files_written change;
    back = write_back change;
    now = tears change;
    each = λ past image step. step;
    all = λ past image step. step;
  }

  pub wrote_tied : Change → new.calls ≡ write_of old.files name at bytes ∷ old.calls → IsTied old → IsTied new
  wrote_tied change kept tied =
      ap (λ (l : List Done). certain l (folder_of new.files)) kept ∙ ap (λ (f : Folder). certain old.calls f) (write_back change) ∙ tied
      ∙ sym same
    where
      same : certain_folder new.files ≡ certain_folder old.files
      same = certain_changed old.files new.files name (Some rest) change ∙ put_same (certain_folder old.files) name (certain_of rest)
          (still_certain (found old.files name) name at bytes ∙ sym (certain_is old.files name))

-- ---- a sync

module _ (old new : Held) (name : List ℕ) (file : Stored) where
  synced_files : found old.files name ≡ Some file → Changed old.files new.files name (Some (settled file))
      → folder_of new.files ≡ folder_of old.files
  synced_files is change = folder_changed old.files new.files name (Some (settled file)) change ∙ put_same (folder_of old.files) name
      (Some file.bytes) (sym (folder_found old.files name ∙ ap bytes_of is))

  pub synced : found old.files name ≡ Some file → Changed old.files new.files name (Some (settled file))
      → new.calls ≡ done.Synced name ∷ old.calls → Did old new (λ folder. folder) (Syncs name (folder_of old.files name))
  synced is change kept = record {
    call = done.Synced name;
    kept = kept;
    files = synced_files is change;
    back = synced_files is change;
    now = synced_files is change ∙ sym (put_same (folder_of old.files) name (folder_of old.files name) refl);
    each = λ past image step. step;
    all = λ past image step. step;
  }

  pub synced_tied : found old.files name ≡ Some file → Changed old.files new.files name (Some (settled file))
      → new.calls ≡ done.Synced name ∷ old.calls → IsTied old → IsTied new
  synced_tied is change kept tied =
      ap (λ (l : List Done). certain l (folder_of new.files)) kept
      ∙ ap (λ (f : Folder). put (certain old.calls f) name (f name)) (synced_files is change)
      ∙ ap (λ (f : Folder). put f name (folder_of old.files name)) tied
      ∙ ap (λ (x : Option (List ℕ)). put (certain_folder old.files) name x) (folder_found old.files name ∙ ap bytes_of is)
      ∙ sym (certain_changed old.files new.files name (Some (settled file)) change)

-- ---- a removal

module _ (old new : Held) (name : List ℕ) (file : Stored) where
  abbrev lost : List ℕ
  lost = content (folder_of old.files name)

  removed_files : Changed old.files new.files name None → folder_of new.files ≡ put (folder_of old.files) name None
  removed_files change = folder_changed old.files new.files name None change

  lost_is : found old.files name ≡ Some file → Some lost ≡ folder_of old.files name
  lost_is is = let there : folder_of old.files name ≡ Some file.bytes = folder_found old.files name ∙ ap bytes_of is in
      ap (λ (x : Option (List ℕ)). Some (content x)) there ∙ sym there

  removed_back : found old.files name ≡ Some file → Changed old.files new.files name None
      → put (folder_of new.files) name (Some lost) ≡ folder_of old.files
  removed_back is change =
      ap (λ (f : Folder). put f name (Some lost)) (removed_files change)
      ∙ put-put (folder_of old.files) name None (Some lost)
      ∙ put_same (folder_of old.files) name (Some lost) (lost_is is)

  pub removed : found old.files name ≡ Some file → Changed old.files new.files name None → new.calls ≡ removal_of old.files name ∷ old.calls
      → Did old new (λ folder. put folder name None) (Removes name)
  removed is change kept = record {
    call = removal_of old.files name;
    kept = kept;
    files = removed_files change;
    back = removed_back is change;
    now = removed_files change;
    each = λ past image step. step;
    all = λ past image step. step;
  }

  pub removed_tied : found old.files name ≡ Some file → Changed old.files new.files name None
      → new.calls ≡ removal_of old.files name ∷ old.calls → IsTied old → IsTied new
  removed_tied is change kept tied =
      ap (λ (l : List Done). certain l (folder_of new.files)) kept
      ∙ ap (λ (f : Folder). put (certain old.calls f) name None) (removed_back is change)
      ∙ ap (λ (f : Folder). put f name None) tied
      ∙ sym (certain_changed old.files new.files name None change)

-- ---- a rename, which takes the file out and puts it under the other name

module _ (old new : Held) (middle : List Stored) (from to : List ℕ) (file moving : Stored) where
  abbrev taken : Option (List ℕ)
  taken = put (folder_of old.files) from None to

  -- what is known of the two steps
  pub record Renaming : Type 0 where
    pub is : found old.files from ≡ Some file
    pub out : Changed old.files middle from None
    pub renames : moving ≡ renamed file to
    pub back_in : Changed middle new.files to (Some moving)

  pub steps_known : found old.files from ≡ Some file → Changed old.files middle from None → moving ≡ renamed file to
      → Changed middle new.files moving.name (Some moving) → Renaming
  steps_known is out renames back_in = record {
    is = is;
    out = out;
    renames = renames;
    back_in = subst (λ (n : List ℕ). Changed middle new.files n (Some moving)) (ap (λ (f : Stored). f.name) renames) back_in;
  }

  middle_files : Renaming → folder_of middle ≡ put (folder_of old.files) from None
  middle_files s = folder_changed old.files middle from None s.out

  moved_bytes : Renaming → Some moving.bytes ≡ folder_of old.files from
  moved_bytes s = ap (λ (f : Stored). Some f.bytes) s.renames ∙ sym (folder_found old.files from ∙ ap bytes_of s.is)

  new_files : Renaming → folder_of new.files ≡ put (folder_of middle) to (folder_of old.files from)
  new_files s = folder_changed middle new.files to (Some moving) s.back_in ∙ ap
      (λ (x : Option (List ℕ)). put (folder_of middle) to x) (moved_bytes s)

  moved_files : Renaming → folder_of new.files ≡ moved (folder_of old.files) from to
  moved_files s = new_files s ∙ ap (λ (f : Folder). put f to (folder_of old.files from)) (middle_files s)

  at_new_name : Renaming → folder_of new.files to ≡ folder_of old.files from
  at_new_name s = ap (λ (f : Folder). f to) (new_files s) ∙ put_at (folder_of middle) to (folder_of old.files from)

  -- the name's own file again
  lost_back : Renaming → put (folder_of new.files) to taken ≡ folder_of middle
  lost_back s =
      ap (λ (f : Folder). put f to taken) (new_files s)
      ∙ put-put (folder_of middle) to (folder_of old.files from) taken
      ∙ put_same (folder_of middle) to taken (sym (ap (λ (f : Folder). f to) (middle_files s)))

  moved_back : Renaming → put (put (folder_of new.files) to taken) from (folder_of new.files to) ≡ folder_of old.files
  moved_back s =
      ap (λ (f : Folder). put f from (folder_of new.files to)) (lost_back s ∙ middle_files s)
      ∙ put-put (folder_of old.files) from None (folder_of new.files to)
      ∙ put_same (folder_of old.files) from (folder_of new.files to) (at_new_name s)

  pub renamed_call : Renaming → new.calls ≡ rename_of old.files from to ∷ old.calls
      → Did old new (λ folder. moved folder from to) (Moves from to)
  renamed_call s kept = record {
    call = rename_of old.files from to;
    kept = kept;
    files = moved_files s;
    back = moved_back s;
    now = moved_files s;
    each = λ past image step. step;
    all = λ past image step. step;
  }

  moved_certain : Renaming → certain_folder new.files ≡ moved (certain_folder old.files) from to
  moved_certain s =
      certain_changed middle new.files to (Some moving) s.back_in
      ∙ ap (λ (x : Option (List ℕ)). put (certain_folder middle) to x)
      (ap certain_of s.renames ∙ sym (certain_is old.files from ∙ ap certain_found s.is))
      ∙ ap (λ (f : Folder). put f to (certain_folder old.files from)) (certain_changed old.files middle from None s.out)

  pub renamed_tied : Renaming → new.calls ≡ rename_of old.files from to ∷ old.calls → IsTied old → IsTied new
  renamed_tied s kept tied =
      ap (λ (l : List Done). certain l (folder_of new.files)) kept
      ∙ ap (λ (f : Folder). moved (certain old.calls f) from to) (moved_back s)
      ∙ ap (λ (f : Folder). moved f from to) tied
      ∙ sym (moved_certain s)

-- ---- whether the name is there

pub in_folder : (files : List Stored) (name : List ℕ) (file : Stored) → found files name ≡ Some file → IsSome (folder_of files name)
in_folder files name file is = ap (λ (o : Option (List ℕ)). is_some o) (folder_found files name ∙ ap bytes_of is)

pub not_in_folder : (files : List Stored) (name : List ℕ) → found files name ≡ None → folder_of files name ≡ None
not_in_folder files name none = folder_found files name ∙ ap bytes_of none

-- a sync, where the answer says that the file is there
pub synced_if : (old new : Held) (name : List ℕ) → is_some (found old.files name) ≡ true
    → Changed old.files new.files name (option_map settled (found old.files name)) → new.calls ≡ done.Synced name ∷ old.calls
    → Did old new (λ folder. folder) (Syncs name (folder_of old.files name)) × (IsTied old → IsTied new)
synced_if old new name there change kept = each (found old.files name) refl there change
  where
    each : (o : Option Stored) → found old.files name ≡ o → is_some o ≡ true → Changed old.files new.files name (option_map settled o)
        → Did old new (λ folder. folder) (Syncs name (folder_of old.files name)) × (IsTied old → IsTied new)
    each None is there change = absurd (false≢true there)
    each (Some file) is there change = (synced old new name file is change kept, synced_tied old new name file is change kept)

-- after a sync the file keeps no write that could be taken back
pub lets_go : (old new : List Stored) (name : List ℕ) → Changed old new name (option_map settled (found old name))
    → KeepsNoWrite new name
lets_go old new name change = subst (λ (o : Option Stored). IfSome o (λ file. file.undos ≡ [])) (sym is) (each (found old name))
  where
    is : found new name ≡ option_map settled (found old name)
    is = change.files name ∙ ap (λ (b : Bool). cond b (option_map settled (found old name)) (found old name)) ((bytes_eq-Decides name name).1 refl)

    each : (o : Option Stored) → IfSome (option_map settled o) (λ file. file.undos ≡ [])
    each None = tt
    each (Some file) = refl

pub found_if : (files : List Stored) (name : List ℕ) → is_some (found files name) ≡ true → IsSome (folder_of files name)
found_if files name there = each (found files name) refl there
  where
    each : (o : Option Stored) → found files name ≡ o → is_some o ≡ true → IsSome (folder_of files name)
    each None is there = absurd (false≢true there)
    each (Some file) is there = in_folder files name file is

pub none_if : (files : List Stored) (name : List ℕ) → is_some (found files name) ≡ false → found files name ≡ None
none_if files name none = each (found files name) none
  where
    each : (o : Option Stored) → is_some o ≡ false → o ≡ None
    each None none = refl
    each (Some file) none = absurd (false≢true (sym none))

-- a call that finds no file of the name leaves all as it was
pub not_done : (old : Held) (files now : List Stored) (calls : List Done) (name : List ℕ)
    → record { files = files; calls = calls } ≡ old → now ≡ files → found files name ≡ None
    → DidNot old (record { files = now; calls = calls }) name error.Missing
not_done old files now calls name is same_files none = record {
  unchanged = ap (λ (f : List Stored). mk f) same_files ∙ is;
  missing = λ e. sym (ap (λ (h : Held). folder_of h.files name) is) ∙ not_in_folder files name none;
  never_failed = λ e. cc;
}
  where
    mk : List Stored → Held
    mk f = record { files = f; calls = calls }
