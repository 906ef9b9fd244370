pub mod FaultWords
