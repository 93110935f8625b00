-- Streams of bytes and the messages that are read of them: there is one reading, which stops where no message is in
-- front.
use Rattle.std.proofs.Common.{◌≡◌, ℕ, ◌+◌, ◌<◌, ◌≤◌, List, [], ◌∷◌, ◌++◌, length, refl, sym, ap, subst, ◌∙◌, append_assoc, length-append, inl, inr, ◌⊎◌, arith}
use Rattle.repl_message.specs.declared.message.Phase.{Phase}
use Rattle.repl_message.specs.declared.message.Phase.TheVariants as phase
use Rattle.repl_message.specs.declared.message.Message.{Message}
use Rattle.repl_message.specs.declared.message.Message.TheVariants as message
use Rattle.repl_message.specs.Message.{Belongs, after, spelling, int32, startup_body}
use Rattle.repl_message.specs.Encoding.{capped}
use Rattle.repl_wire.specs.declared.fault.WireFault.{WireFault}
use Rattle.repl_wire.specs.declared.taking.Taken.TheVariants as taken
use Rattle.repl_wire.specs.Judging.{judge, judge_startup, judge_front, judge_back, frame_of}
use Rattle.repl_wire.specs.Reader.{Reading, AreRead}
use Rattle.repl_wire.proofs.Messages.{is_only}
use Rattle.repl_wire.proofs.Settled.{judge_more}
use Rattle.repl_wire.proofs.FieldSpellings.{messages_one}

-- ---- what is read

-- the messages of a stream, and then those of what was left
pub read_then : (p q r : Phase) (bytes rest last : List ℕ) (ms ns : List Message) → AreRead p bytes ms q rest → AreRead q rest ns r last
    → AreRead p bytes (ms ++ ns) r last
read_then p q r bytes rest last [] ns read more =
    subst (λ (b : List ℕ). AreRead p b ns r last) read.1 (subst (λ (f : Phase). AreRead f rest ns r last) read.0 more)
read_then p q r bytes rest last (m ∷ ms) ns read more =
    (read.0, (read.1.0, read.1.1, read_then (after p m) q r read.1.0 rest last ms ns read.1.2 more))

-- more bytes at the end are left
pub read_more : (p q : Phase) (bytes rest more : List ℕ) (ms : List Message) → AreRead p bytes ms q rest
    → AreRead p (bytes ++ more) ms q (rest ++ more)
read_more p q bytes rest more [] read = (read.0, ap (λ (b : List ℕ). b ++ more) read.1)
read_more p q bytes rest more (m ∷ ms) read = (
  read.0,
  (
    read.1.0 ++ more,
    ap (λ (b : List ℕ). b ++ more) read.1.1 ∙ append_assoc (spelling m) read.1.0 more,
    read_more (after p m) q read.1.0 rest more ms read.1.2,
  ),
)

pub read_within : (p q : Phase) (bytes rest : List ℕ) (ms : List Message) → AreRead p bytes ms q rest → length rest ≤ length bytes
read_within p q bytes rest [] read = omega (arith, ap length read.1)
read_within p q bytes rest (m ∷ ms) read =
    omega (arith, ap length read.1.1, length-append (spelling m) read.1.0, read_within (after p m) q read.1.0 rest ms read.1.2)

-- a message at the front
pub read_one : (p : Phase) (bytes past : List ℕ) (m : Message) → Belongs p m → bytes ≡ spelling m ++ past
    → AreRead p bytes (m ∷ []) (after p m) past
read_one p bytes past m belongs parts = (belongs, (past, parts, (refl, refl)))

-- no message is without bytes
pub spelling_some : (m : Message) → 0 < length (spelling m)
spelling_some (message.Startup m) = omega (arith, length-append (int32 (length (startup_body m) + 4)) (startup_body m))
spelling_some (message.Front m) = omega arith
spelling_some (message.Back m) = omega arith

-- where a reader gives a message, less is left
pub rest_less : (now new : Reading) (m : Message) (past : List ℕ) → now.rest ≡ spelling m ++ past → new
    ≡ record { phase = after now.phase m; place = capped (now.place + length (spelling m)); rest = past }
    → length new.rest < length now.rest
rest_less now new m past parts next =
    omega (arith, spelling_some m, ap (λ (r : Reading). length r.rest) next, ap length parts, length-append (spelling m) past)

-- ---- no message is in front

abbrev pub IsStuck : Phase → List ℕ → Type 0
IsStuck p bytes = (m : Message) (past : List ℕ) → Belongs p m → bytes ≡ spelling m ++ past → ⊥

pub stuck_short : (p : Phase) (bytes : List ℕ) → judge p bytes ≡ taken.Short → IsStuck p bytes
stuck_short p bytes short m past belongs is =
    elim (is_only p bytes taken.Short short m (spelling m) past (record { belongs = belongs; spelled = refl }) is) [
      | inl e ↦ absurd cc
      | inr e ↦ absurd cc
    ]

-- what is refused is refused whatever follows it, and is not nothing
pub stuck_wrong : (p : Phase) (bytes more : List ℕ) (f : WireFault) → judge p bytes ≡ taken.Wrong f → IsStuck p (bytes ++ more)
stuck_wrong p bytes more f wrong m past belongs is =
    let still : judge p (bytes ++ more) ≡ taken.Wrong f = judge_more p bytes more (rw wrong tt) ∙ wrong in
    elim (is_only p (bytes ++ more) (taken.Wrong f) still m (spelling m) past (record { belongs = belongs; spelled = refl }) is) [
      | inl e ↦ absurd cc
      | inr e ↦ absurd cc
    ]

-- where there are no bytes, more are needed
pub judge_empty : (p : Phase) → judge p [] ≡ taken.Short
unfolding judge_startup judge_front judge_back frame_of
judge_empty phase.Startup = refl
judge_empty phase.Front = refl
judge_empty phase.Back = refl
judge_empty phase.Ended = refl

pub refused_some : (p : Phase) (bytes : List ℕ) (f : WireFault) → judge p bytes ≡ taken.Wrong f → bytes ≡ [] → ⊥
refused_some p bytes f wrong none = let bad = sym (judge_empty p) ∙ ap (judge p) (sym none) ∙ wrong in absurd cc

-- ---- two readings

-- one message stands in front
pub front_one : (p : Phase) (m n : Message) (bytes x y : List ℕ) → Belongs p m → Belongs p n → bytes ≡ spelling m ++ x → bytes ≡ spelling n
    ++ y → (m ≡ n) × (x ≡ y)
front_one p m n bytes x y a b e f =
    messages_one p m n (spelling m) (spelling n) x y (record { belongs = a; spelled = refl }) (record { belongs = b; spelled = refl })
    (sym e ∙ f)

-- the second messages go on where the first stop, with a message that stands there
pub record Further (q : Phase) (rest : List ℕ) (ms ns : List Message) : Type 0 where
  pub message : Message
  pub more : List Message
  pub past : List ℕ
  pub longer : ns ≡ ms ++ message ∷ more
  pub belongs : Belongs q message
  pub parts : rest ≡ spelling message ++ past

-- both are the same, and leave the same
pub record Alike (rest left : List ℕ) (ms ns : List Message) : Type 0 where
  pub messages : ms ≡ ns
  pub left_over : rest ≡ left

further_more : (q : Phase) (rest : List ℕ) (m : Message) (ms ns : List Message) → Further q rest ms ns → Further q rest (m ∷ ms) (m ∷ ns)
further_more q rest m ms ns f = record {
  message = f.message;
  more = f.more;
  past = f.past;
  longer = ap (λ (l : List Message). m ∷ l) f.longer;
  belongs = f.belongs;
  parts = f.parts;
}

-- of two readings one goes on with the other
pub readings : (p q s : Phase) (bytes rest left : List ℕ) (ms ns : List Message) → AreRead p bytes ms q rest → AreRead p bytes ns s left
    → Alike rest left ms ns ⊎ Further q rest ms ns ⊎ Further s left ns ms
readings p q s bytes rest left [] [] x y = inl (record { messages = refl; left_over = x.1 ∙ sym y.1 })
readings p q s bytes rest left [] (n ∷ ns) x y = inr (inl (record
    { message = n; more = ns; past = y.1.0; longer = refl; belongs = rw x.0 y.0; parts = x.1 ∙ y.1.1 }))
readings p q s bytes rest left (m ∷ ms) [] x y = inr (inr (record
    { message = m; more = ms; past = x.1.0; longer = refl; belongs = rw y.0 x.0; parts = y.1 ∙ x.1.1 }))
readings p q s bytes rest left (m ∷ ms) (n ∷ ns) x y =
    let one = front_one p m n bytes x.1.0 y.1.0 x.0 y.0 x.1.1 y.1.1 in
    let others = readings (after p m) q s x.1.0 rest left ms ns x.1.2 (rw (one.0, one.1) y.1.2) in
    elim others [
      | inl a ↦ inl (record { messages = rw (one.0, a.messages) refl; left_over = a.left_over })
      | inr r ↦ elim r [
        | inl f ↦ inr (inl (rw (← one.0) (further_more q rest m ms ns f)))
        | inr f ↦ inr (inr (rw (← one.0) (further_more s left m ns ms f)))
      ]
    ]

pub none_further : (q : Phase) (ms ns : List Message) → Further q [] ms ns → ⊥
none_further q ms ns f = omega (arith, spelling_some f.message, ap length f.parts, length-append (spelling f.message) f.past)

-- the messages that all the bytes are
pub all_one : (p q s : Phase) (bytes : List ℕ) (ms ns : List Message) → AreRead p bytes ms q [] → AreRead p bytes ns s [] → ms ≡ ns
all_one p q s bytes ms ns x y =
    elim (readings p q s bytes [] [] ms ns x y) [
      | inl a ↦ a.messages
      | inr r ↦ elim r [
        | inl f ↦ absurd (none_further q ms ns f)
        | inr f ↦ absurd (none_further s ns ms f)
      ]
    ]
