-- An input that is read piece by piece: how far the session has come in it, and where it is refused.
use Rattle.std.proofs.Common.{◌≡◌, ℕ, ◌+◌, ◌-◌, ◌^◌, ◌<◌, ◌≤◌, List, [], ◌∷◌, ◌++◌, length, refl, sym, ap, subst, ◌∙◌, append_assoc, length-append, inl, inr, arith}
use Rattle.std.proofs.lemmas.List.{append-nil}
use Rattle.repl_message.specs.declared.message.Phase.{Phase}
use Rattle.repl_message.specs.declared.message.Phase.TheVariants as phase
use Rattle.repl_message.specs.declared.message.Message.{Message}
use Rattle.repl_message.specs.Message.{Belongs, after, spelling}
use Rattle.repl_message.specs.Encoding.{capped}
use Rattle.repl_wire.specs.declared.fault.WireFault.{WireFault}
use Rattle.repl_wire.specs.declared.taking.Taken.TheVariants as taken
use Rattle.repl_wire.specs.Judging.{judge}
use Rattle.repl_wire.specs.Reader.{Reading, Waits, AreRead, fed}
use Rattle.repl_identify.specs.declared.stage.Session.{Session}
use Rattle.repl_identify.specs.declared.stage.Stage.{Stage}
use Rattle.repl_identify.specs.declared.stage.Stage.TheVariants as stage
use Rattle.repl_identify.specs.Session.{IsSession, IsNoSessionAt}
use Rattle.repl_identify.specs.Apart.{not_further}
use Rattle.repl_identify.specs.Stages.{asks, Goes, Lead, Halts, Walked, Stuck}
use Rattle.repl_identify.proofs.Stages.{lead_then, lead_one, lead_to_one, goes_few, session_from, session_leads, stage_begins, begins_goes, session_over, over}
use Rattle.repl_wire.proofs.Streams.{read_then, read_more, read_one, spelling_some, stuck_short, stuck_wrong, judge_empty, refused_some, front_one, readings, all_one}

-- ---- a reader gives messages

pub walked_none : (r : Reading) (a : Stage) → asks a ≤ r.place → Walked r a r a
walked_none r a few = record { messages = []; read = (refl, refl); place = refl; lead = refl; few = few }

pub walked_more : (old r new : Reading) (from a b : Stage) (m : Message) (past : List ℕ) → Walked old from r a
    → old.place + length old.rest < 2 ^ 64 → Belongs r.phase m → r.rest ≡ spelling m ++ past
    → new ≡ record { phase = after r.phase m; place = capped (r.place + length (spelling m)); rest = past } → Goes a m b
    → Walked old from new b
walked_more old r new from a b m past w fits belongs parts next goes =
    let used : length r.rest ≡ length (spelling m) + length past = ap length parts ∙ length-append (spelling m) past in
    let place : capped (r.place + length (spelling m)) ≡ r.place + length (spelling m) = omega (arith, used, w.place, fits) in
    let few = goes_few a b m goes in
    let some = spelling_some m in
    rw next (record {
      messages = w.messages ++ m ∷ [];
      read = read_then old.phase r.phase (after r.phase m) old.rest r.rest past w.messages (m ∷ []) w.read
          (read_one r.phase r.rest past m belongs parts);
      place = omega (arith, place, used, w.place);
      lead = lead_then from a b w.messages (m ∷ []) w.lead (lead_one a b m goes);
      few = omega (arith, place, few, some, w.few);
    })

-- where a message is left, there are fewer than 2^64 - 1
pub counted_less : (old r : Reading) (from a : Stage) (m : Message) (past : List ℕ) → Walked old from r a
    → old.place + length old.rest < 2 ^ 64 → r.rest ≡ spelling m ++ past → asks a < 2 ^ 64 - 1
counted_less old r from a m past w fits parts =
    omega (arith, w.few, w.place, fits, ap length parts, length-append (spelling m) past, spelling_some m)

-- ---- where it stops

-- the reader refuses what is next
pub stuck_refused : (old r : Reading) (from a : Stage) (place : ℕ) (f : WireFault) → Walked old from r a → place ≡ r.place
    → judge r.phase r.rest ≡ taken.Wrong f → Stuck old from place
stuck_refused old r from a place f w at wrong = record {
  new = r;
  to = a;
  walked = w;
  at = at;
  some = refused_some r.phase r.rest f wrong;
  halts = λ more m past next belongs parts goes. stuck_wrong r.phase r.rest more f wrong m past belongs parts;
}

-- the next message leads nowhere
pub stuck_message : (old r : Reading) (from a : Stage) (place : ℕ) (m : Message) (past : List ℕ) → Walked old from r a → place ≡ r.place
    → Belongs r.phase m → r.rest ≡ spelling m ++ past
    → ((next : Stage) → Goes a m next → ⊥) → Stuck old from place
stuck_message old r from a place m past w at belongs parts none =
    let used : length r.rest ≡ length (spelling m) + length past = ap length parts ∙ length-append (spelling m) past in
    let some = spelling_some m in
    record {
      new = r;
      to = a;
      walked = w;
      at = at;
      some = λ empty. omega (arith, used, some, ap length empty);
      halts = λ more n other next belongs_n parts_n goes.
          let longer : r.rest ++ more ≡ spelling m ++ (past ++ more) = ap (λ (x : List ℕ). x ++ more) parts
          ∙ append_assoc (spelling m) past more in
          let one = front_one r.phase m n (r.rest ++ more) (past ++ more) other belongs belongs_n longer parts_n in
          none next (subst (λ (x : Message). Goes a x next) (sym one.0) goes);
    }

-- ---- the input so far

-- the messages of what was fed so far, of which the reader has what is not whole, and the stage after them
pub record SoFar (input left : List ℕ) (r : Reading) (a : Stage) : Type 0 where
  pub done : List ℕ
  pub messages : List Message
  pub parts : input ≡ done ++ left
  pub read : AreRead phase.Startup done messages r.phase r.rest
  pub lead : Lead (stage.Starting 0) messages a
  pub place : r.place + length r.rest ≡ length done
  pub few : asks a ≤ r.place
  pub waits : Waits r

pub so_far_none : (input : List ℕ) (r : Reading) → r ≡ record { phase = phase.Startup; place = 0; rest = [] }
    → SoFar input input r (stage.Starting 0)
so_far_none input r is = rw is (record {
  done = [];
  messages = [];
  parts = refl;
  read = (refl, refl);
  lead = refl;
  place = refl;
  few = omega arith;
  waits = judge_empty phase.Startup;
})

-- a piece more is fed
pub record Fed (input rest : List ℕ) (s : Reading) (a : Stage) : Type 0 where
  pub done : List ℕ
  pub messages : List Message
  pub parts : input ≡ done ++ rest
  pub read : AreRead phase.Startup done messages s.phase s.rest
  pub lead : Lead (stage.Starting 0) messages a
  pub place : s.place + length s.rest ≡ length done
  pub few : asks a ≤ s.place

pub fed_more : (input left piece rest : List ℕ) (r s : Reading) (a : Stage) → SoFar input left r a → left ≡ piece ++ rest → s ≡ fed r piece
    → Fed input rest s a
fed_more input left piece rest r s a f parts is = rw is (record {
  done = f.done ++ piece;
  messages = f.messages;
  parts = f.parts ∙ ap (λ (u : List ℕ). f.done ++ u) parts ∙ sym (append_assoc f.done piece rest);
  read = read_more phase.Startup r.phase f.done r.rest piece f.messages f.read;
  lead = f.lead;
  place = omega (arith, f.place, length-append r.rest piece, length-append f.done piece);
  few = f.few;
})

pub fed_fits : (input rest : List ℕ) (s : Reading) (a : Stage) → Fed input rest s a → length input < 2 ^ 64
    → s.place + length s.rest < 2 ^ 64
fed_fits input rest s a f small = omega (arith, f.place, small, ap length f.parts, length-append f.done rest)

-- and its messages are given
walked_all : (input rest : List ℕ) (s t : Reading) (a b : Stage) (f : Fed input rest s a) (w : Walked s a t b)
    → AreRead phase.Startup f.done (f.messages ++ w.messages) t.phase t.rest × Lead (stage.Starting 0) (f.messages ++ w.messages) b
walked_all input rest s t a b f w = (
  read_then phase.Startup s.phase t.phase f.done s.rest t.rest f.messages w.messages f.read w.read,
  lead_then (stage.Starting 0) a b f.messages w.messages f.lead w.lead,
)

pub so_far_more : (input rest : List ℕ) (s t : Reading) (a b : Stage) → Fed input rest s a → Walked s a t b → Waits t → SoFar input rest t b
so_far_more input rest s t a b f w waits =
    let all = walked_all input rest s t a b f w in
    record {
      done = f.done;
      messages = f.messages ++ w.messages;
      parts = f.parts;
      read = all.0;
      lead = all.1;
      place = w.place ∙ f.place;
      few = w.few;
      waits = waits;
    }

-- ---- the place where an input is refused

refused_from : (input : List ℕ) (place : ℕ) (ms : List Message) (q : Phase) (rest : List ℕ) (a : Stage)
    → AreRead phase.Startup input ms q rest → place + length rest ≡ length input → Lead (stage.Starting 0) ms a
    → Halts q rest a → (rest ≡ [] → (s : Session) → a ≡ stage.Over s → ⊥) → IsNoSessionAt input place
refused_from input place ms q rest a read at lead halts unended = record {
  messages = ms;
  last = q;
  rest = rest;
  read = read;
  at = at;
  goes_on = stage_begins ms a lead;
  stops = λ m text past parts spells begins.
      let goes = begins_goes ms m a lead begins in
      let whole : rest ≡ spelling m ++ past = parts ∙ ap (λ (x : List ℕ). x ++ past) spells.spelled in
      halts m past goes.0 spells.belongs whole goes.1;
  unended = λ empty some. let o = session_over ms a lead some in unended empty o.0 o.1;
}

empty_front : (front more : List ℕ) → front ++ more ≡ [] → front ≡ []
empty_front [] more e = refl
empty_front (b ∷ front) more e = absurd cc

pub refused_stuck : (input rest : List ℕ) (s : Reading) (a : Stage) (place : ℕ) → Fed input rest s a → Stuck s a place
    → IsNoSessionAt input place
refused_stuck input rest s a place f k =
    let all = walked_all input rest s k.new a k.to f k.walked in
    let read = read_more phase.Startup k.new.phase f.done k.new.rest rest (f.messages ++ k.walked.messages) all.0 in
    let whole = subst (λ (x : List ℕ). AreRead phase.Startup x (f.messages ++ k.walked.messages) k.new.phase (k.new.rest ++ rest))
    (sym f.parts) read in
    let at : place + length (k.new.rest ++ rest) ≡ length input =
    omega (arith, k.at, k.walked.place, f.place, length-append k.new.rest rest, ap length f.parts, length-append f.done rest) in
    refused_from input place (f.messages ++ k.walked.messages) k.new.phase (k.new.rest ++ rest) k.to whole at all.1 (k.halts rest)
    (λ empty over is. k.some (empty_front k.new.rest rest empty))

-- ---- all was fed

done_all : (input left : List ℕ) (r : Reading) (a : Stage) → (f : SoFar input left r a) → left ≡ [] → f.done ≡ input
done_all input left r a f none = sym (f.parts ∙ ap (λ (u : List ℕ). f.done ++ u) none ∙ append-nil f.done)

pub read_whole : (input left : List ℕ) (r : Reading) (s : Session) → SoFar input left r (stage.Over s) → left ≡ [] → r.rest ≡ []
    → IsSession input s.requests s.questions
read_whole input left r s f none empty = record {
  messages = f.messages;
  are_all = (r.phase, rw (done_all input left r (stage.Over s) f none, empty) at f.read);
  are_session = session_from f.messages s f.lead;
}

pub refused_end : (input left : List ℕ) (r : Reading) (a : Stage) (place : ℕ) → SoFar input left r a → left ≡ [] → place ≡ r.place
    → (r.rest ≡ [] → (s : Session) → a ≡ stage.Over s → ⊥) → IsNoSessionAt input place
refused_end input left r a place f none at unended =
    let all = done_all input left r a f none in
    refused_from input place f.messages r.phase r.rest a (rw all at f.read) (omega (arith, at, f.place, ap length all)) f.lead
    (λ m past next belongs parts goes. stuck_short r.phase r.rest f.waits m past belongs parts) unended

-- ---- one answer

abbrev session : ℕ → ℕ → Session
session requests questions = record { requests = requests; questions = questions }

pub one_counts : (input : List ℕ) (a b c d : ℕ) → IsSession input a b → IsSession input c d → (a ≡ c) × (b ≡ d)
one_counts input a b c d x y =
    let same = all_one phase.Startup x.are_all.0 y.are_all.0 input x.messages y.messages x.are_all.1 y.are_all.1 in
    let first = session_leads x.messages a b x.are_session in
    let second = subst (λ (m : List Message). Lead (stage.Starting 0) m (over c d)) (sym same) (session_leads y.messages c d y.are_session)
    in
    let one : over a b ≡ over c d = lead_to_one (stage.Starting 0) (over a b) (over c d) x.messages first second in
    let whole : session a b ≡ session c d = cc in
    (ap (λ (x : Session). x.requests) whole, ap (λ (x : Session). x.questions) whole)

pub one_place : (input : List ℕ) (a b : ℕ) → IsNoSessionAt input a → IsNoSessionAt input b → a ≡ b
one_place input a b x y =
    elim (readings phase.Startup x.last y.last input x.rest y.rest x.messages y.messages x.read y.read) [
      | inl s ↦ omega (arith, x.at, y.at, ap length s.left_over)
      | inr e ↦ elim e [
        | inl f ↦ absurd (not_further input a x y.messages f y.goes_on)
        | inr f ↦ absurd (not_further input b y x.messages f x.goes_on)
      ]
    ]
