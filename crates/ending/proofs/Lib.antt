-- What a call on an EE is proved from: the scopes that stay open, and the answers of a session that decodes.
pub mod Closing
pub mod Sessions
pub mod Taking
