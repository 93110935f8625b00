-- What tokens say is a command.
use Rattle.std.proofs.Common.{◌≡◌, ℕ, ◌^◌, ◌<◌, Bool, inl, inr, List, [], ◌∷◌, ◌++◌, map, Option, Some, None, All, codes, refl, sym, subst, arith}
use Rattle.std.proofs.lemmas.Bool.Decides.{nat_tests}
use Rattle.std.proofs.lemmas.List.Elements.{All-map, All-weaker, All-from_get_or}
use Rattle.std.proofs.lemmas.Str.Ascii.{lowercase-lowercase}
use Rattle.std.specs.Char.{to_ascii_lowercase}
use Rattle.hex.proofs.HexLemmas.{decode_of-ok}
use Rattle.repl_text.specs.Text.{IsText}
use Rattle.repl_lsn.proofs.Halves.{half_fits}
use Rattle.repl_cmd.specs.declared.command.Command.{Command}
use Rattle.repl_cmd.specs.declared.command.Command.TheVariants as command
use Rattle.repl_text.specs.SlotName.{IsSlotName}
use Rattle.repl_cmd.specs.Name.{IsParameterName}
use Rattle.repl_cmd.specs.Token.{Lexeme}
use Rattle.repl_cmd.specs.Command.{Part, Keyword, Slot, Parameter, Position, Number, Body, Names, Is, IsParameter, IsPosition, IsNumber, IsBody, Follow, OneOf, temporary_part, create_physical, reserve_forms, start_words, timeline_part, wait_part, alter_words, forms, Says, IsCommand, IsTimeline, IsSlotOf}
use Rattle.repl_cmd.proofs.WalkForms.{physical_forms}

-- ---- what values are

small_small : (name : List ℕ) → map to_ascii_lowercase (map to_ascii_lowercase name) ≡ map to_ascii_lowercase name
small_small [] = refl
small_small (c ∷ cs) = (λ i. lowercase-lowercase c i ∷ small_small cs i)

small_byte : (c : ℕ) → (0 < c) × (c < 256) → (0 < to_ascii_lowercase c) × (to_ascii_lowercase c < 256)
small_byte c h = grind (arith, nat_tests)

small_text : (name : List ℕ) → IsText name → IsText (map to_ascii_lowercase name)
small_text name h = All-map (λ (b : ℕ). (0 < b) × (b < 256)) to_ascii_lowercase name
    (All-weaker (λ (b : ℕ). (0 < b) × (b < 256)) (λ (b : ℕ). (0 < to_ascii_lowercase b) × (to_ascii_lowercase b < 256)) small_byte name h)

parameter_name : (name : List ℕ) (t : Lexeme) → IsParameter name t → IsParameterName name
parameter_name name t h = subst IsParameterName (sym h.written) (record { text = small_text t.text h.text; small = small_small t.text })

place_fits : (at : ℕ) (t : Lexeme) → IsPosition at t → at < 2 ^ 64
place_fits at t h =
    let s = h.1 in
    let high = half_fits s.high s.high_is.hexadecimal s.high_is.few in
    let low = half_fits s.low s.low_is.hexadecimal s.low_is.few in
    omega (arith, s.value)

number_fits : (n : ℕ) (t : Lexeme) → IsNumber 1 n t → (0 < n) × (n < 2 ^ 32)
number_fits n t h = (omega (arith, h.above), h.below)

body_bytes : (bytes : List ℕ) (t : Lexeme) → IsBody bytes t → All (λ b. b < 256) bytes
body_bytes bytes t h = let is = (decode_of-ok t.text bytes h.1).3 in All-from_get_or (λ b. b < 256) bytes 0 (λ i l. is i)

-- ---- the parts of a form

-- a token is what the part says
abbrev Said : Part → Type 0
Said p = (t : Lexeme) × Is p t

-- some token is the part after these others
said : (front : List Part) (p : Part) (past : List Part) (ts : List Lexeme) → Follow (front ++ p ∷ past) ts → Said p
said [] p past [] f = absurd f
said [] p past (t ∷ ts) f = (t, f.0)
said (q ∷ front) p past [] f = absurd f
said (q ∷ front) p past (t ∷ ts) f = said front p past ts f.1

said_slot : (name : List ℕ) → Said (Slot name) → IsSlotName name
said_slot name (t, h) = h.is_name

said_number : (n : ℕ) → Said (Number 1 n) → (0 < n) × (n < 2 ^ 32)
said_number n (t, h) = number_fits n t h

created_slot : (name : List ℕ) (temporary : Bool) (past : List (List Part)) (ts : List Lexeme)
    → OneOf (map (λ ps. create_physical name temporary ++ ps) past) ts → Said (Slot name)
created_slot name temporary [] ts h = absurd h
created_slot name temporary (ps ∷ past) ts (inl f) = said (Keyword (codes "create_replication_slot") ∷ []) (Slot name)
    ((temporary_part temporary ++ Keyword (codes "physical") ∷ []) ++ ps) ts f
created_slot name temporary (ps ∷ past) ts (inr h) = created_slot name temporary past ts h

started_slot : (slot : Option (List ℕ)) (ps : List Part) (ts : List Lexeme) → Follow (start_words slot ++ ps) ts → IsSlotOf slot
started_slot None ps ts f = tt
started_slot (Some name) ps ts f = said_slot name (said (Keyword (codes "start_replication") ∷ Keyword (codes "slot") ∷ [])
    (Slot name) ps ts f)

-- the timeline after these parts
timeline_fits : (front : List Part) (timeline : Option ℕ) (ts : List Lexeme) → Follow (front ++ timeline_part timeline) ts
    → IsTimeline timeline
timeline_fits front None ts f = tt
timeline_fits [] (Some n) ts f = said_number n (said (Keyword (codes "timeline") ∷ []) (Number 1 n) [] ts f)
timeline_fits (p ∷ front) (Some n) [] f = absurd f
timeline_fits (p ∷ front) (Some n) (t ∷ ts) f = timeline_fits front (Some n) ts f.1

started_position : (front : List Part) (at : ℕ) (timeline : Option ℕ) (ts : List Lexeme)
    → Follow (front ++ Position at ∷ timeline_part timeline) ts → (at < 2 ^ 64) × IsTimeline timeline
started_position [] at timeline [] f = absurd f
started_position [] at timeline (t ∷ ts) f = (place_fits at t f.0, timeline_fits [] timeline ts f.1)
started_position (p ∷ front) at timeline [] f = absurd f
started_position (p ∷ front) at timeline (t ∷ ts) f = started_position front at timeline ts f.1

-- the parts of the physical form but for those after it
physical_slot : (slot : Option (List ℕ)) (ps : List Part) (ts : List Lexeme)
    → Follow ((start_words slot ++ Keyword (codes "physical") ∷ []) ++ ps) ts → IsSlotOf slot
physical_slot slot ps ts f = started_slot slot (Keyword (codes "physical") ∷ ps) ts (physical_forms slot ps ts f)

stream_command : (slot : Option (List ℕ)) (at : ℕ) (timeline : Option ℕ) (ts : List Lexeme)
    → OneOf (forms (command.StartReplication slot at timeline)) ts → IsCommand (command.StartReplication slot at timeline)
stream_command slot at timeline ts (inl f) = let p = started_position (start_words slot) at timeline ts f in
    (started_slot slot (Position at ∷ timeline_part timeline) ts f, p.0, p.1)
stream_command slot at timeline ts (inr (inl f)) =
    let p = started_position (start_words slot ++ Keyword (codes "physical") ∷ []) at timeline ts f in
    (physical_slot slot (Position at ∷ timeline_part timeline) ts f, p.0, p.1)
stream_command slot at timeline ts (inr (inr f)) = absurd f

form_command : (c : Command) (ts : List Lexeme) → OneOf (forms c) ts → IsCommand c
form_command (command.Show name) ts (inl f) = let s = said (Keyword (codes "show") ∷ [])
    (Parameter name) [] ts f in parameter_name name s.0 s.1
form_command (command.TimelineHistory n) ts (inl f) = said_number n (said (Keyword (codes "timeline_history") ∷ []) (Number 1 n) [] ts f)
form_command (command.CreateSlot name temporary reserve) ts f = said_slot name (created_slot name temporary (reserve_forms reserve) ts f)
form_command (command.DropSlot name wait) ts (inl f) = said_slot name (said (Keyword (codes "drop_replication_slot") ∷ []) (Slot name)
    (wait_part wait) ts f)
form_command (command.ReadSlot name) ts (inl f) = said_slot name (said (Keyword (codes "read_replication_slot") ∷ []) (Slot name) [] ts f)
form_command (command.StartReplication slot at timeline) ts f = stream_command slot at timeline ts f
form_command (command.Append xid body) ts (inl f) =
    let number = said (Keyword (codes "append") ∷ []) (Number 0 xid) (Body body ∷ []) ts f in
    let bytes = said (Keyword (codes "append") ∷ Number 0 xid ∷ []) (Body body) [] ts f in
    (number.1.below, body_bytes body bytes.0 bytes.1)
form_command (command.SetNames list) ts (inl f) = let s = said alter_words (Names list) [] ts f in s.1.1.is_listing
form_command (command.Promote None) ts f = tt
form_command (command.Promote (Some n)) ts (inl f) = said_number n (said (Keyword (codes "promote") ∷ []) (Number 1 n) [] ts f)
form_command command.IdentifySystem ts f = tt
form_command (command.SetCommit v) ts f = tt
form_command command.Demote ts f = tt
form_command command.Trim ts f = tt
form_command command.Status ts f = tt
form_command command.Stop ts f = tt
form_command _ ts (inr f) = absurd f

pub said_command : (tokens : List Lexeme) (c : Command) → Says tokens c → IsCommand c
said_command tokens c says = form_command c says.said says.is_said
