pub mod InternalAnswers
