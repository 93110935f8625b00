-- The call that a note is of.
use Rattle.repl_disk.specs.Calls.{Done, Synced, write_of, rename_of, removal_of}
use Rattle.repl_disk.specs.declared.past.Note.{Note}
use Rattle.repl_disk.specs.declared.past.Note.TheVariants as note

abbrev pub call_of : Note → Done
call_of (note.Write files name at bytes) = write_of files.now name.now at bytes.now
call_of (note.Sync name) = Synced name.now
call_of (note.Rename files from to) = rename_of files.now from.now to.now
call_of (note.Remove files name) = removal_of files.now name.now
