-- What a line brings of the frames that were written on it, where one side read a beginning of the
-- bytes that the other wrote (PROTOCOL.md, "Frames"; that a line brings no more is assumed).
use Rattle.std.specs.Prelude.{◌≡◌, ◌⊎◌, ℕ, List, [], ◌++◌, All, flat_map, Contains}
use Rattle.gate_session.specs.Frames.{RequestFits, request_frame}
use Rattle.gate_session.specs.Answers.{AnswerFits, answer_frame}
use Rattle.text_io.specs.Writing.{IsBeginning, IsCutShort}
use Rattle.gate_law.specs.Premises.{Line}

-- these are the first of all those, in their order
abbrev pub AreFirstOf : {X : Type 0} → List X → List X → Type 0
AreFirstOf {X = X} firsts all = (more : List X) × (all ≡ firsts ++ more)

module _ {X : Type 0} (Fits : X → Type 0) (frame : X → List ℕ) where
  -- the text is the frames of these, and then nothing, or a part of one more
  pub record IsWritten (text : List ℕ) (sent : List X) : Type 0 where
    pub part : List ℕ
    pub fits : All Fits sent
    pub parts : text ≡ flat_map frame sent ++ part
    pub ends : (part ≡ []) ⊎ ((next : X) × Fits next × IsCutShort part (frame next))

  -- the bytes begin with the frames of these
  pub record IsRead (bytes : List ℕ) (heard : List X) : Type 0 where
    pub rest : List ℕ
    pub fits : All Fits heard
    pub parts : bytes ≡ flat_map frame heard ++ rest

  -- whatever was read of a beginning of a text is the first of what was written
  abbrev pub DoesBringFirst : Type 0
  DoesBringFirst =
      (text bytes : List ℕ) (sent heard : List X) → IsWritten text sent → IsBeginning bytes text
      → IsRead bytes heard → AreFirstOf heard sent

-- so it is with requests
abbrev pub DoLinesBringRequests : Type 0
DoLinesBringRequests = DoesBringFirst RequestFits request_frame

-- and with answers
abbrev pub DoLinesBringAnswers : Type 0
DoLinesBringAnswers = DoesBringFirst AnswerFits answer_frame

-- each of the first was written before: that is the premise Line
abbrev pub AreByLine : Type 0 → Type 0
AreByLine X = (heard sent : List X) (x : X) → AreFirstOf heard sent → Contains heard x → Line sent x
