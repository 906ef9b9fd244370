pub mod WordsEntry
