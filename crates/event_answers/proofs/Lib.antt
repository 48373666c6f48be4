-- What an event that is in place or refused says of the counts; and a computed example that rests on another one of specs/.
pub mod InPlace
pub mod FinishExamples
