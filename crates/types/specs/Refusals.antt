-- Document 01, 'Who can cause a refusal': the number of each refusal, and the values that it answers.
use Rattle.std.specs.Prelude.{ℕ, List, [], ◌∷◌}
use Rattle.types.specs.declared.error.ProducerError.{ProducerError}
use Rattle.types.specs.declared.error.ProducerError.TheVariants.{Closed, PartOutside, OverBound, OutboundFull, HeldFull, MessageTooLarge, PendingFull, SettingOverBound, TooShort, NoFrame, NotAnswerable, MalformedEntry}

abbrev pub number_of : ProducerError → ℕ
number_of Closed = 1
number_of PartOutside = 2
number_of OverBound = 3
number_of OutboundFull = 4
number_of HeldFull = 5
number_of (MessageTooLarge size limit) = 6
number_of PendingFull = 7
number_of SettingOverBound = 8
number_of TooShort = 9
number_of NoFrame = 10
number_of NotAnswerable = 11
number_of MalformedEntry = 12

-- 6 answers both numbers, the payload's length and the limit; no other answers any
abbrev pub values_of : ProducerError → List ℕ
values_of Closed = []
values_of PartOutside = []
values_of OverBound = []
values_of OutboundFull = []
values_of HeldFull = []
values_of (MessageTooLarge size limit) = size ∷ limit ∷ []
values_of PendingFull = []
values_of SettingOverBound = []
values_of TooShort = []
values_of NoFrame = []
values_of NotAnswerable = []
values_of MalformedEntry = []
