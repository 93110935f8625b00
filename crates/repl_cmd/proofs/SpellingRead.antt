-- The spelling of a command is read as it.
use Rattle.std.proofs.Common.{◌≡◌, ℕ, ◌<◌, ◌^◌, Bool, true, false, List, [], ◌∷◌, ◌++◌, length, codes, decimal, Option, Some, None, map, refl, sym, subst, inl, inr, arith}
use Rattle.std.specs.Char.{to_ascii_lowercase}
use Rattle.std.specs.List.{All}
use Rattle.hex.specs.Hex.{encode_lower}
use Rattle.repl_lsn.specs.Position.{position_text}
use Rattle.repl_names.specs.StandbyList as names
use Rattle.repl_names.specs.StandbyList.{Listing, IsListing}
use Rattle.repl_names.specs.declared.setting.Setting.{Setting}
use Rattle.repl_names.specs.declared.setting.Setting.TheVariants as setting
use Rattle.repl_cmd.specs.declared.command.Command.{Command}
use Rattle.repl_cmd.specs.declared.command.Command.TheVariants as command
use Rattle.repl_cmd.specs.declared.token.Kind.TheVariants as kind
use Rattle.repl_text.specs.SlotName.{IsSlotName}
use Rattle.repl_cmd.specs.Name.{IsParameterName}
use Rattle.repl_cmd.specs.Token.{Lexeme}
use Rattle.repl_names.specs.Setting.{setting_word}
use Rattle.repl_cmd.specs.Command.{Part, Keyword, Sign, Slot, Parameter, Position, Number, Value, Body, Names, Follow, OneOf, IsCommand, SaysCommand, IsTimeline, IsSlotOf, forms, create_physical, temporary_part, start_words, slot_part, timeline_part, wait_part, number_part, reserve_wal, set_words, alter_words}
use Rattle.repl_cmd.specs.Printing.{spelling}
use Rattle.repl_cmd.proofs.TokenOf.{Piece, IsPiece, IsWritten, IsFront, written_first, written_more, front_space, front_more, front_word, word_piece, position_piece, name_piece, text_piece, equals_piece, all_word_bytes, keyword_is_piece, number_is_piece, position_is_piece, name_is_piece, text_is_piece, equals_is_piece}
use Rattle.repl_cmd.proofs.WrittenParts.{pieces_if, written_if, number_pieces, number_written, slot_pieces, slot_front, timeline_pieces, timeline_written}
use Rattle.repl_cmd.proofs.PieceMeaning.{MeansOne, Means, written_is_read, keyword_means, slot_means, parameter_means, number_means, position_means, setting_means, body_means, list_means, equals_means}

-- ---- commands of one word, and of one word and one more token

one_word : (word : List ℕ) → 0 < length word → all_word_bytes word ≡ true → IsWritten word (word_piece word) []
one_word word some e = written_first (word_piece word) (keyword_is_piece word some e)

word_front : (word : List ℕ) → 0 < length word → all_word_bytes word ≡ true → IsFront (word ++ 32 ∷ []) (word_piece word) []
word_front word some e = front_space word (word_piece word) [] (one_word word some e)

word_and : (word : List ℕ) (q : Piece) → 0 < length word → all_word_bytes word ≡ true → IsPiece q
    → IsWritten (word ++ 32 ∷ [] ++ q.spelled) (word_piece word) (q ∷ [])
word_and word q some e is = front_more (word ++ 32 ∷ []) (word_piece word) [] q (word_front word some e) is

-- a command that is one keyword
keyword_read : (word small : List ℕ) (c : Command) → 0 < length word → all_word_bytes word ≡ true → map to_ascii_lowercase word ≡ small
    → forms c ≡ (Keyword small ∷ []) ∷ [] → SaysCommand word c
keyword_read word small c some bytes e form =
    written_is_read word (word_piece word) [] (Keyword small ∷ []) c (one_word word some bytes) (keyword_means word small e, tt)
    (λ said f. subst (λ (forms : List (List Part)). OneOf forms said) (sym form) (inl f))

show_read : (name : List ℕ) → IsParameterName name → SaysCommand (spelling (command.Show name)) (command.Show name)
show_read name is =
    written_is_read _ _ _ (Keyword (codes "show") ∷ Parameter name ∷ []) (command.Show name)
    (word_and (codes "SHOW") (name_piece name) (omega arith) refl (name_is_piece name))
    (keyword_means (codes "SHOW") (codes "show") refl, (parameter_means name is, tt))
    (λ said f. inl f)

history_read : (n : ℕ) → 0 < n → n < 2 ^ 32 → SaysCommand (spelling (command.TimelineHistory n)) (command.TimelineHistory n)
history_read n some small =
    written_is_read _ _ _ (Keyword (codes "timeline_history") ∷ Number 1 n ∷ []) (command.TimelineHistory n)
    (word_and (codes "TIMELINE_HISTORY") (word_piece (decimal n)) (omega arith) refl (number_is_piece n (omega arith)))
    (keyword_means (codes "TIMELINE_HISTORY") (codes "timeline_history") refl, (number_means 1 n (omega arith) small, tt))
    (λ said f. inl f)

slot_read : (name : List ℕ) → IsSlotName name → SaysCommand (spelling (command.ReadSlot name)) (command.ReadSlot name)
slot_read name is =
    written_is_read _ _ _ (Keyword (codes "read_replication_slot") ∷ Slot name ∷ []) (command.ReadSlot name)
    (word_and (codes "READ_REPLICATION_SLOT") (name_piece name) (omega arith) refl (name_is_piece name))
    (keyword_means (codes "READ_REPLICATION_SLOT") (codes "read_replication_slot") refl, (slot_means name is, tt))
    (λ said f. inl f)

-- ---- words that may stand after

drop_means : (name : List ℕ) (wait : Bool) → IsSlotName name
    → Means (Keyword (codes "drop_replication_slot") ∷ Slot name ∷ wait_part wait)
    (word_piece (codes "DROP_REPLICATION_SLOT") ∷ name_piece name ∷ pieces_if wait (codes "WAIT"))
drop_means name true is = (
  keyword_means (codes "DROP_REPLICATION_SLOT") (codes "drop_replication_slot") refl,
  (slot_means name is, (keyword_means (codes "WAIT") (codes "wait") refl, tt)),
)
drop_means name false is = (keyword_means (codes "DROP_REPLICATION_SLOT") (codes "drop_replication_slot") refl, (slot_means name is, tt))

drop_read : (name : List ℕ) (wait : Bool) → IsSlotName name
    → SaysCommand (spelling (command.DropSlot name wait)) (command.DropSlot name wait)
drop_read name wait is =
    let named = word_and (codes "DROP_REPLICATION_SLOT") (name_piece name) (omega arith) refl (name_is_piece name) in
    written_is_read _ _ _ (Keyword (codes "drop_replication_slot") ∷ Slot name ∷ wait_part wait) (command.DropSlot name wait)
    (written_if _ _ _ wait (codes "WAIT") (keyword_is_piece (codes "WAIT") (omega arith) refl) named)
    (drop_means name wait is)
    (λ said f. inl f)

promote_means : (n : Option ℕ) → IsTimeline n → Means (Keyword (codes "promote") ∷ number_part n)
    (word_piece (codes "PROMOTE") ∷ number_pieces n)
promote_means None is = (keyword_means (codes "PROMOTE") (codes "promote") refl, tt)
promote_means (Some n) is = (keyword_means (codes "PROMOTE") (codes "promote") refl, (number_means 1 n (omega (arith, is.0)) is.1, tt))

promote_read : (n : Option ℕ) → IsTimeline n → SaysCommand (spelling (command.Promote n)) (command.Promote n)
promote_read n is =
    written_is_read _ _ _ (Keyword (codes "promote") ∷ number_part n) (command.Promote n)
    (number_written _ _ _ n is (one_word (codes "PROMOTE") (omega arith) refl))
    (promote_means n is)
    (λ said f. inl f)

-- ---- a slot that is made

abbrev reserve_part : Bool → List Part
reserve_part true = reserve_wal ∷ []
reserve_part false = []

-- the pieces of `name [TEMPORARY] PHYSICAL [RESERVE_WAL]`
abbrev create_pieces : List ℕ → Bool → Bool → List Piece
create_pieces name temporary reserve = ((name_piece name ∷ pieces_if temporary (codes "TEMPORARY")) ++ word_piece
    (codes "PHYSICAL") ∷ []) ++ pieces_if reserve (codes "RESERVE_WAL")

create_means : (name : List ℕ) (temporary reserve : Bool) → IsSlotName name
    → Means (create_physical name temporary ++ reserve_part reserve) (word_piece
    (codes "CREATE_REPLICATION_SLOT") ∷ create_pieces name temporary reserve)
create_means name temporary reserve is =
    let create = keyword_means (codes "CREATE_REPLICATION_SLOT") (codes "create_replication_slot") refl in
    let slot = slot_means name is in
    let physical = keyword_means (codes "PHYSICAL") (codes "physical") refl in
    (create, (slot, go temporary reserve physical))
  where
    past : (reserve : Bool) → Means (reserve_part reserve) (pieces_if reserve (codes "RESERVE_WAL"))
    past true = (keyword_means (codes "RESERVE_WAL") (codes "reserve_wal") refl, tt)
    past false = tt

    go : (temporary reserve : Bool) → MeansOne (Keyword (codes "physical")) (word_piece (codes "PHYSICAL"))
        → Means ((temporary_part temporary ++ Keyword (codes "physical") ∷ []) ++ reserve_part reserve)
        ((pieces_if temporary (codes "TEMPORARY") ++ word_piece (codes "PHYSICAL") ∷ []) ++ pieces_if reserve (codes "RESERVE_WAL"))
    go true reserve physical = (keyword_means (codes "TEMPORARY") (codes "temporary") refl, (physical, past reserve))
    go false reserve physical = (physical, past reserve)

create_form : (name : List ℕ) (temporary reserve : Bool) (said : List Lexeme)
    → Follow (create_physical name temporary ++ reserve_part reserve) said → OneOf (forms (command.CreateSlot name temporary reserve)) said
create_form name temporary true said f = inl f
create_form name temporary false said f = inl f

create_read : (name : List ℕ) (temporary reserve : Bool) → IsSlotName name
    → SaysCommand (spelling (command.CreateSlot name temporary reserve)) (command.CreateSlot name temporary reserve)
create_read name temporary reserve is =
    let named = word_and (codes "CREATE_REPLICATION_SLOT") (name_piece name) (omega arith) refl (name_is_piece name) in
    let temporarily = written_if _ _ _ temporary (codes "TEMPORARY") (keyword_is_piece (codes "TEMPORARY") (omega arith) refl) named in
    let physical = written_more _ _ _ (word_piece (codes "PHYSICAL")) temporarily
    (keyword_is_piece (codes "PHYSICAL") (omega arith) refl) in
    let reserved = written_if _ _ _ reserve (codes "RESERVE_WAL") (keyword_is_piece (codes "RESERVE_WAL") (omega arith) refl) physical in
    written_is_read _ _ _ (create_physical name temporary ++ reserve_part reserve) (command.CreateSlot name temporary reserve) reserved
    (create_means name temporary reserve is) (create_form name temporary reserve)

-- ---- a stream

-- the pieces of `[SLOT name] PHYSICAL position [TIMELINE number]`
abbrev start_pieces : Option (List ℕ) → ℕ → Option ℕ → List Piece
start_pieces slot at timeline = ((slot_pieces slot ++ word_piece (codes "PHYSICAL") ∷ []) ++ position_piece
    (position_text at) ∷ []) ++ timeline_pieces timeline

start_means : (slot : Option (List ℕ)) (at : ℕ) (timeline : Option ℕ) → IsSlotOf slot → at < 2 ^ 64 → IsTimeline timeline
    → Means ((start_words slot ++ Keyword (codes "physical") ∷ []) ++ Position at ∷ timeline_part timeline)
    (word_piece (codes "START_REPLICATION") ∷ start_pieces slot at timeline)
start_means slot at timeline name small number =
    (keyword_means (codes "START_REPLICATION") (codes "start_replication") refl, go slot name)
  where
    past : (timeline : Option ℕ) → IsTimeline timeline → Means (timeline_part timeline) (timeline_pieces timeline)
    past None number = tt
    past (Some n) number = (
      keyword_means (codes "TIMELINE") (codes "timeline") refl,
      (number_means 1 n (omega (arith, number.0)) number.1, tt),
    )

    go : (slot : Option (List ℕ)) → IsSlotOf slot
        → Means ((slot_part slot ++ Keyword (codes "physical") ∷ []) ++ Position at ∷ timeline_part timeline)
        (start_pieces slot at timeline)
    go None name = (keyword_means (codes "PHYSICAL") (codes "physical") refl, (position_means at small, past timeline number))
    go (Some bytes) name = (
      keyword_means (codes "SLOT") (codes "slot") refl,
      (
        slot_means bytes name,
        (
          keyword_means (codes "PHYSICAL") (codes "physical") refl,
          (position_means at small, past timeline number),
        ),
      ),
    )

start_read : (slot : Option (List ℕ)) (at : ℕ) (timeline : Option ℕ) → IsSlotOf slot → at < 2 ^ 64 → IsTimeline timeline
    → SaysCommand (spelling (command.StartReplication slot at timeline)) (command.StartReplication slot at timeline)
start_read slot at timeline name small number =
    let start = word_front (codes "START_REPLICATION") (omega arith) refl in
    let named = slot_front _ _ _ slot start in
    let physical = front_word _ _ _ (word_piece (codes "PHYSICAL")) named (keyword_is_piece (codes "PHYSICAL") (omega arith) refl) in
    let placed = front_more _ _ _ (position_piece (position_text at)) physical (position_is_piece at small) in
    written_is_read _ _ _ ((start_words slot ++ Keyword (codes "physical") ∷ []) ++ Position at ∷ timeline_part timeline)
    (command.StartReplication slot at timeline)
    (timeline_written _ _ _ timeline number placed)
    (start_means slot at timeline name small number)
    (λ said f. inr (inl f))

-- ---- statements

append_read : (xid : ℕ) (body : List ℕ) → xid < 2 ^ 32 → All (λ b. b < 256) body
    → SaysCommand (spelling (command.Append xid body)) (command.Append xid body)
append_read xid body small bytes =
    let numbered = word_and (codes "APPEND") (word_piece (decimal xid)) (omega arith) refl (number_is_piece xid (omega arith)) in
    let spaced = front_space _ _ _ numbered in
    written_is_read _ _ _ (Keyword (codes "append") ∷ Number 0 xid ∷ Body body ∷ []) (command.Append xid body)
    (front_more _ _ _ (text_piece (encode_lower body)) spaced (text_is_piece (encode_lower body)))
    (keyword_means (codes "APPEND") (codes "append") refl, (number_means 0 xid (omega arith) small, (body_means body bytes, tt)))
    (λ said f. inl f)

setting_is_piece : (v : Setting) → IsPiece (word_piece (setting_word v))
setting_is_piece setting.RemoteApply = keyword_is_piece (codes "remote_apply") (omega arith) refl
setting_is_piece setting.On = keyword_is_piece (codes "on") (omega arith) refl
setting_is_piece setting.RemoteWrite = keyword_is_piece (codes "remote_write") (omega arith) refl
setting_is_piece setting.Local = keyword_is_piece (codes "local") (omega arith) refl
setting_is_piece setting.Off = keyword_is_piece (codes "off") (omega arith) refl

commit_read : (v : Setting) → SaysCommand (spelling (command.SetCommit v)) (command.SetCommit v)
commit_read v =
    let set = word_and (codes "SET") (word_piece (codes "synchronous_commit")) (omega arith) refl
    (keyword_is_piece (codes "synchronous_commit") (omega arith) refl) in
    let equals = front_space _ _ _ (written_more _ _ _ equals_piece set equals_is_piece) in
    written_is_read _ _ _ (set_words ++ Sign kind.Equals ∷ Value v ∷ []) (command.SetCommit v)
    (front_more _ _ _ (word_piece (setting_word v)) equals (setting_is_piece v)) (
      keyword_means (codes "SET") (codes "set") refl,
      (
        keyword_means (codes "synchronous_commit") (codes "synchronous_commit") refl,
        (equals_means, (setting_means v, tt)),
      ),
    )
    (λ said f. inl f)

names_means : (list : Listing) → IsListing list
    → Means (alter_words ++ Names list ∷ []) (word_piece (codes "ALTER") ∷ word_piece (codes "SYSTEM") ∷ word_piece
    (codes "SET") ∷ word_piece (codes "synchronous_standby_names") ∷ equals_piece ∷ text_piece (names.list_spelling list) ∷ [])
names_means list is = (
  keyword_means (codes "ALTER") (codes "alter") refl,
  (
    keyword_means (codes "SYSTEM") (codes "system") refl,
    (
      keyword_means (codes "SET") (codes "set") refl,
      (
        keyword_means (codes "synchronous_standby_names") (codes "synchronous_standby_names") refl,
        (equals_means, (list_means list is, tt)),
      ),
    ),
  ),
)

names_read : (list : Listing) → IsListing list → SaysCommand (spelling (command.SetNames list)) (command.SetNames list)
names_read list is =
    let system = word_and (codes "ALTER") (word_piece (codes "SYSTEM")) (omega arith) refl
    (keyword_is_piece (codes "SYSTEM") (omega arith) refl) in
    let set = written_more _ _ _ (word_piece (codes "SET")) system (keyword_is_piece (codes "SET") (omega arith) refl) in
    let name = written_more _ _ _ (word_piece (codes "synchronous_standby_names")) set
    (keyword_is_piece (codes "synchronous_standby_names") (omega arith) refl) in
    let equals = front_space _ _ _ (written_more _ _ _ equals_piece name equals_is_piece) in
    written_is_read _ _ _ (alter_words ++ Names list ∷ []) (command.SetNames list)
    (front_more _ _ _ (text_piece (names.list_spelling list)) equals (text_is_piece (names.list_spelling list)))
    (names_means list is)
    (λ said f. inl f)

-- ---- each command

pub spelling_read : (c : Command) → IsCommand c → SaysCommand (spelling c) c
spelling_read command.IdentifySystem is = keyword_read (codes "IDENTIFY_SYSTEM") (codes "identify_system") command.IdentifySystem
    (omega arith) refl refl refl
spelling_read (command.Show name) is = show_read name is
spelling_read (command.TimelineHistory n) is = history_read n is.0 is.1
spelling_read (command.CreateSlot name temporary reserve) is = create_read name temporary reserve is
spelling_read (command.DropSlot name wait) is = drop_read name wait is
spelling_read (command.ReadSlot name) is = slot_read name is
spelling_read (command.StartReplication slot at timeline) is = start_read slot at timeline is.0 is.1 is.2
spelling_read (command.Append xid body) is = append_read xid body is.0 is.1
spelling_read (command.SetCommit v) is = commit_read v
spelling_read (command.SetNames list) is = names_read list is
spelling_read (command.Promote n) is = promote_read n is
spelling_read command.Demote is = keyword_read (codes "DEMOTE") (codes "demote") command.Demote (omega arith) refl refl refl
spelling_read command.Trim is = keyword_read (codes "TRIM") (codes "trim") command.Trim (omega arith) refl refl refl
spelling_read command.Status is = keyword_read (codes "STATUS") (codes "status") command.Status (omega arith) refl refl refl
spelling_read command.Stop is = keyword_read (codes "STOP") (codes "stop") command.Stop (omega arith) refl refl refl
