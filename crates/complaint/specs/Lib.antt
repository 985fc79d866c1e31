-- A refusal in words.
pub mod Complaint
