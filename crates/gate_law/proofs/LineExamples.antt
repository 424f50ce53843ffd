-- Worked examples of what a line brings, by computing: a frame behind which a part of one was written, and why a gate
-- writes nothing behind a part of a frame.
use Rattle.std.proofs.Common.{◌≡◌, inr, ℕ, List, [], ◌∷◌, ◌++◌, take, drop, refl, arith}
use Rattle.std.proofs.lemmas.List.Elements.{All-nil, All-cons}
use Rattle.oyster_account.specs.declared.touch.Act.TheVariants.{Issue}
use Rattle.oyster_account.specs.declared.touch.Touch.{Touch}
use Rattle.oyster_account.specs.Touch.{Fits}
use Rattle.gate_session.specs.declared.request.Request.{Request}
use Rattle.gate_session.specs.declared.request.Request.TheVariants as requests
use Rattle.gate_session.specs.Frames.{RequestFits, request_frame}
use Rattle.gate_law.specs.Lines.{IsWritten, IsRead, AreFirstOf}
use Rattle.gate_law.proofs.LineLemmas.{requests as lemma}
use Rattle.gate_law.proofs.RunExamples.{first, second}

first_fits : Fits first
first_fits = record { gate = omega arith; number = omega arith; card = omega arith; act = omega arith }

second_fits : Fits second
second_fits = record { gate = omega arith; number = omega arith; card = omega arith; act = omega arith }

abbrev frame_of : Touch → List ℕ
frame_of touch = request_frame (requests.Touch touch)

abbrev one : List Request
one = requests.Touch first ∷ []

-- the first touch's frame, and five bytes of the second's
abbrev text : List ℕ
text = frame_of first ++ take 5 (frame_of second)

written : IsWritten RequestFits request_frame text one
written = record {
  part = take 5 (frame_of second);
  fits = All-cons RequestFits (requests.Touch first) [] first_fits (All-nil RequestFits);
  parts = refl;
  ends = inr (
    requests.Touch second,
    second_fits,
    record {
      missing = drop 5 (frame_of second);
      parts = refl;
      some = λ e. cc;
    },
  );
}

-- of which the station has read all but a byte
read : IsRead RequestFits request_frame (frame_of first ++ take 4 (frame_of second)) one
read = record {
  rest = take 4 (frame_of second);
  fits = All-cons RequestFits (requests.Touch first) [] first_fits (All-nil RequestFits);
  parts = refl;
}

brought : AreFirstOf one one
brought = lemma text (frame_of first ++ take 4 (frame_of second)) one one written
    (take 1 (drop 4 (frame_of second)), refl) read

-- what a station reads where a gate writes nine bytes of a frame and then all of it: a touch of the same gate and
-- number that nobody asked, of card 984064
abbrev stray : Touch
stray = record { gate = 7; number = 1; card = 984_064; act = Issue 117_440_512 }

behind_a_part : take 9 (frame_of first) ++ frame_of first ≡ frame_of stray ++ drop 8 (frame_of first)
behind_a_part = refl
