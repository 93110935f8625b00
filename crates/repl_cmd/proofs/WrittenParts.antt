-- The parts of a written text that may be left out.
use Rattle.std.proofs.Common.{ℕ, Bool, true, false, List, [], ◌∷◌, ◌++◌, codes, decimal, Option, Some, None, refl, sym, ap, subst, ◌∙◌, arith}
use Rattle.std.proofs.lemmas.List.{append-nil, append_assoc}
use Rattle.repl_token.specs.Token.{quoted}
use Rattle.repl_cmd.specs.Command.{IsTimeline}
use Rattle.repl_cmd.specs.Printing.{word_if, slot_words, timeline_words, number_word}
use Rattle.repl_cmd.proofs.TokenOf.{Piece, IsPiece, IsWritten, written_more, written_none, written_as, IsFront, front_space, front_more, front_word, front_none, front_as, word_piece, name_piece, keyword_is_piece, number_is_piece, name_is_piece}

-- nothing more, and no piece more
written_same : (text : List ℕ) (p : Piece) (ps : List Piece) → IsWritten text p ps → IsWritten (text ++ []) p (ps ++ [])
written_same text p ps h = subst (λ (qs : List Piece). IsWritten (text ++ []) p qs) (sym (append-nil ps)) (written_none text p ps h)

-- a word that may stand here

abbrev pub pieces_if : Bool → List ℕ → List Piece
pieces_if true word = word_piece word ∷ []
pieces_if false word = []

pub written_if : (text : List ℕ) (p : Piece) (ps : List Piece) (b : Bool) (word : List ℕ) → IsPiece (word_piece word) → IsWritten text p ps
    → IsWritten (text ++ word_if b (32 ∷ word)) p (ps ++ pieces_if b word)
written_if text p ps true word is h = written_more text p ps (word_piece word) h is
written_if text p ps false word is h = written_same text p ps h

-- a number

abbrev pub number_pieces : Option ℕ → List Piece
number_pieces None = []
number_pieces (Some n) = word_piece (decimal n) ∷ []

pub number_written : (text : List ℕ) (p : Piece) (ps : List Piece) (number : Option ℕ) → IsTimeline number → IsWritten text p ps
    → IsWritten (text ++ number_word number) p (ps ++ number_pieces number)
number_written text p ps None small h = written_same text p ps h
number_written text p ps (Some n) small h = written_more text p ps (word_piece (decimal n)) h (number_is_piece n (omega (arith, small)))

-- a slot and a space

abbrev pub slot_pieces : Option (List ℕ) → List Piece
slot_pieces None = []
slot_pieces (Some name) = word_piece (codes "SLOT") ∷ name_piece name ∷ []

pub slot_front : (text : List ℕ) (p : Piece) (ps : List Piece) (slot : Option (List ℕ)) → IsFront text p ps
    → IsFront (text ++ slot_words slot) p (ps ++ slot_pieces slot)
slot_front text p ps None h = subst (λ (qs : List Piece). IsFront (text ++ []) p qs) (sym (append-nil ps)) (front_none text p ps h)
slot_front text p ps (Some name) h =
    let word = front_word text p ps (word_piece (codes "SLOT")) h (keyword_is_piece (codes "SLOT") (omega arith) refl) in
    let both = front_space _ p _ (front_more _ p _ (name_piece name) word (name_is_piece name)) in
    subst (λ (qs : List Piece). IsFront (text ++ slot_words (Some name)) p qs)
    (append_assoc ps (word_piece (codes "SLOT") ∷ []) (name_piece name ∷ []))
    (front_as _ (text ++ slot_words (Some name)) p _ (sym (append_assoc text (codes "SLOT " ++ quoted 34 name) (32 ∷ []))
    ∙ ap (λ front. front ++ 32 ∷ []) (sym (append_assoc text (codes "SLOT ") (quoted 34 name)))) both)

-- a timeline

abbrev pub timeline_pieces : Option ℕ → List Piece
timeline_pieces None = []
timeline_pieces (Some n) = word_piece (codes "TIMELINE") ∷ word_piece (decimal n) ∷ []

pub timeline_written : (text : List ℕ) (p : Piece) (ps : List Piece) (timeline : Option ℕ) → IsTimeline timeline → IsWritten text p ps
    → IsWritten (text ++ timeline_words timeline) p (ps ++ timeline_pieces timeline)
timeline_written text p ps None small h = written_same text p ps h
timeline_written text p ps (Some n) small h =
    let word = front_space _ p _ (written_more text p ps (word_piece (codes "TIMELINE")) h
    (keyword_is_piece (codes "TIMELINE") (omega arith) refl)) in
    let both = front_more _ p _ (word_piece (decimal n)) word (number_is_piece n (omega (arith, small))) in
    subst (λ (qs : List Piece). IsWritten (text ++ timeline_words (Some n)) p qs)
    (append_assoc ps (word_piece (codes "TIMELINE") ∷ []) (word_piece (decimal n) ∷ []))
    (written_as _ (text ++ timeline_words (Some n)) p _ (sym (append_assoc text (codes " TIMELINE ") (decimal n))
    ∙ ap (λ front. front ++ decimal n) (sym (append_assoc text (codes " TIMELINE") (32 ∷ [])))) both)
